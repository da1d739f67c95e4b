use Rattle.std.proofs.Common.{◌≡◌, IfOk, subst, ap, ◌∙◌}
use Rattle.meaning.specs.Mentions.{marks_by, file_marks}
use Rattle.meaning.specs.Uses.{seen_in}
use Rattle.tracked.specs.LocalViews.{seen_view}
use Rattle.tracked_rows.specs.RowViews.{known_view}
use Rattle.tree.specs.View.{file_syntax}
use Rattle.objects.proofs.looked.see.Goals as goal

pub returns-then-keeps-clause-view : goal.returns-then-keeps-clause-view
returns-then-keeps-clause-view c =
    let known = known_view c.args.known in
    subst (λ s. IfOk c.see_fields.result (λ seen. seen_view seen ≡ s))
    (ap (seen_in known)
    (c.in_ok-marks.ensures ∙ ap (λ b. marks_by known.edition b (file_marks (file_syntax c.args.file.now))) c.some_keep-keeps.ensures))
    c.see_fields.ensures.view

pub returns-else-keeps-clause-view : goal.returns-else-keeps-clause-view
returns-else-keeps-clause-view c =
    let known = known_view c.args.known in
    subst (λ s. IfOk c.see_without.result (λ seen. seen_view seen ≡ s))
    (ap (seen_in known)
    (c.in_ok-marks.ensures ∙ ap (λ b. marks_by known.edition b (file_marks (file_syntax c.args.file.now))) c.some_keep-keeps.ensures))
    c.see_without.ensures.view

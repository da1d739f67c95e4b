use Rattle.std.proofs.Common.{◌≡◌, [], IfOk, subst, sym, refl}
use Rattle.meaning.specs.Tracked.{placed}
use Rattle.mentions.specs.MarkViews.{marks_view}
use Rattle.tracked.specs.LocalViews.{seen_view}
use Rattle.tracked_rows.specs.RowViews.{known_view, left_among}
use Rattle.objects.proofs.SeenSame.{no_rows, seen_same, rows_still, lefts_still}
use Rattle.objects.proofs.looked.see_without.Goals as goal

pub look-requires-clause-rows : goal.look-requires-clause-rows
look-requires-clause-rows c =
    let known = known_view c.args.known in
    let marks = placed [] (marks_view c.args.marks.items) in
    rows_still known (known_view c.with_lefts.result) (left_among []) c.with_lefts.ensures marks []
    (sym (no_rows known c.requires marks)) (λ at. refl)

pub look-requires-clause-lefts : goal.look-requires-clause-lefts
look-requires-clause-lefts c =
    let known = known_view c.args.known in
    let marks = placed [] (marks_view c.args.marks.items) in
    lefts_still known (known_view c.with_lefts.result) (left_among []) c.with_lefts.ensures marks []
    (sym (no_rows known c.requires marks)) (λ at. refl)

pub returns-clause-view : goal.returns-clause-view
returns-clause-view c =
    let known = known_view c.args.known in
    let marks = placed [] (marks_view c.args.marks.items) in
    subst (λ s. IfOk c.look.result (λ seen. seen_view seen ≡ s))
    (seen_same known (known_view c.with_lefts.result) (left_among []) c.with_lefts.ensures marks []
    (sym (no_rows known c.requires marks)) (λ at. refl))
    c.look.ensures.view

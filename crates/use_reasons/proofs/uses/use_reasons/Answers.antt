use Rattle.std.proofs.Common.{[], false, get_or, option_map, ap, ◌∙◌}
use Rattle.std.proofs.lemmas.List.{get_or_default}
use Rattle.meaning.specs.Mentions.{file_marks, marks_by}
use Rattle.meaning.specs.Tracked.{placed}
use Rattle.mentions.specs.MarkViews.{marks_view}
use Rattle.tracked_rows.specs.RowViews.{known_view}
use Rattle.tree.specs.View.{file_syntax}
use Rattle.tree.specs.declared.edition.Edition.TheVariants.{Second}
use Rattle.use_reasons.specs.ReasonViews.{of_view, reason_view}
use Rattle.use_reasons.specs.UseReasons.{use_reason}
use Rattle.use_reasons.specs.declared.uses.AskedOf.TheVariants.{OfCancel}
use Rattle.use_reasons.specs.declared.uses.AskedUse.{AskedUse}
use Rattle.use_reasons.proofs.FirstReasons.{last_answer, next_answer}
use Rattle.use_reasons.proofs.uses.use_reasons.Goals as goal

pub loop-one-preserved : goal.loop-one-preserved
loop-one-preserved c =
    let known = known_view c.args.known.now in
    let marks = placed [] (marks_by Second false (file_marks (file_syntax c.args.file.now))) in
    let i = c.loop-one.one-index in
    let one : AskedUse = get_or c.args.asked.now i record { at = 0; of = OfCancel } in
    next_answer (option_map reason_view) (λ u. use_reason known marks u.at (of_view u.of)) c.args.asked.now
    i one c.loop-one-test.true (get_or_default c.args.asked.now i _ one c.loop-one-test.true) c.loop-one.reasons.items c.push.new.self.items
    c.told_of.result c.in_ok-push.ensures.items
    (c.told_of.ensures _ c.in_ok-told.ensures
    ∙ ap (λ ps. use_reason known ps one.at (of_view one.of))
    (ap (λ ms. placed [] (marks_view ms)) c.deref.ensures.value ∙ ap (placed []) c.in_ok-marks.ensures))
    c.loop-one.invariant

pub returns : goal.returns
returns c =
    let known = known_view c.args.known.now in
    let marks = placed [] (marks_by Second false (file_marks (file_syntax c.args.file.now))) in
    last_answer (option_map reason_view) (λ u. use_reason known marks u.at (of_view u.of)) c.args.asked.now
    c.loop-one.one-index c.loop-one-test.false c.loop-one.reasons.items c.loop-one.invariant

use Rattle.std.proofs.Common.{[], sym, ap, ◌∙◌}
use Rattle.std.specs.List.{list_any}
use Rattle.mentions.specs.MarkViews.{marks_view}
use Rattle.meaning.specs.Objects.{is_value_in}
use Rattle.meaning.specs.Tracked.{placed}
use Rattle.meaning.specs.Kept.{points_elsewhere}
use Rattle.tracked.specs.LocalViews.{seen_view}
use Rattle.kept.proofs.PlacesGiven.{held_unpointed, held_value, held_none, points_placed}
use Rattle.kept.proofs.holder.held.Goals as goal

pub returns-then-not-points : goal.returns-then-not-points
returns-then-not-points c =
    let seen = seen_view c.args.seen.now in
    let x = c.args.object in
    held_unpointed seen x
    (points_placed seen x (marks_view c.args.seen.now.marks.items)
    ∙ sym (c.in_ok-points.ensures ∙ ap (λ ms. list_any (points_elsewhere seen x) (marks_view ms)) c.deref.ensures.value)
    ∙ c.if-not-points.true)

pub returns-then-is_value_in : goal.returns-then-is_value_in
returns-then-is_value_in c =
    let seen = seen_view c.args.seen.now in
    held_value seen c.args.object
    (ap (λ ms. is_value_in seen.known (placed [] (marks_view ms)) c.args.object) (sym c.deref-2.ensures.value)
    ∙ sym c.is_value_in.ensures ∙ c.if-is_value_in.true)

pub returns : goal.returns
returns c =
    let seen = seen_view c.args.seen.now in
    let x = c.args.object in
    held_none seen x
    (ap (λ ms. is_value_in seen.known (placed [] (marks_view ms)) x) (sym c.deref-2.ensures.value)
    ∙ sym c.is_value_in.ensures ∙ c.if-is_value_in.false)
    (points_placed seen x (marks_view c.args.seen.now.marks.items)
    ∙ sym (c.in_ok-points.ensures ∙ ap (λ ms. list_any (points_elsewhere seen x) (marks_view ms)) c.deref.ensures.value)
    ∙ c.if-not-points.false)

use Rattle.std.proofs.Common.{not, ◌&&◌, sym, ap, ◌∙◌}
use Rattle.mentions.specs.MarkViews.{mark_view}
use Rattle.tracked.specs.LocalViews.{seen_view}
use Rattle.meaning.specs.Kept.{is_place_given}
use Rattle.kept.proofs.holder.points_elsewhere.Goals as goal

pub returns-then-not-points_to : goal.returns-then-not-points_to
returns-then-not-points_to c =
    let is_given = is_place_given (seen_view c.args.seen.now) c.args.object (mark_view c.args.mark) in
    ap (λ b. b && not is_given) (sym c.if-not-points_to.true ∙ c.points_to.ensures)

pub returns : goal.returns
returns c =
    let is_given = is_place_given (seen_view c.args.seen.now) c.args.object (mark_view c.args.mark) in
    ap not c.in_ok-is_given.ensures ∙ ap (λ b. b && not is_given) (sym c.if-not-points_to.false ∙ c.points_to.ensures)

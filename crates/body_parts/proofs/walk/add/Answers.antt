use Rattle.std.proofs.Common.{sym, ◌∙◌}
use Rattle.body_parts.specs.PartViews.{part_view}
use Rattle.body_parts.proofs.AddedParts.{adds_wanted, adds_unwanted}
use Rattle.body_parts.proofs.walk.add.Goals as goal

pub returns-in_ok-push : goal.returns-in_ok-push
returns-in_ok-push c =
    adds_wanted c.args.wanted _ _ c.args.part (sym c.is_wanted.ensures ∙ c.if-is_wanted.true) c.in_ok-push.ensures.items

pub returns-else-is_wanted : goal.returns-else-is_wanted
returns-else-is_wanted c =
    adds_unwanted c.args.wanted _ (part_view c.args.part) (sym c.is_wanted.ensures ∙ c.if-is_wanted.false)

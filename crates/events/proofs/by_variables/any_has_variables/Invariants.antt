use Rattle.std.proofs.Common.{◌≡◌, drop, map}
use Rattle.std.specs.List.{list_any}
use Rattle.meaning.specs.OuterBlocks.{has_any}
use Rattle.mentions.specs.MarkViews.{body_view}
use Rattle.events.specs.VariableViews.{ordered_in}
use Rattle.events.proofs.by_variables.any_has_variables.Given as goal

-- the test of the bodies that are left is that of all
abbrev pub invariant-loop-body : goal.invariant-loop-body
invariant-loop-body l =
    list_any (λ b. has_any (ordered_in l.variables b.at)) (map body_view (drop l.body-index l.bodies))
    ≡ list_any (λ b. has_any (ordered_in l.variables b.at)) (map body_view l.bodies)

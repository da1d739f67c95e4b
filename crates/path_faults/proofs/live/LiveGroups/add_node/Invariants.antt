use Rattle.std.proofs.Common.{◌≡◌, ◌&&◌, ◌||◌, ℕ, drop, map}
use Rattle.events.specs.VariableViews.{variable_view}
use Rattle.path_faults.specs.FoundFaults.{any_from, is_live_group, is_same_place, is_live_at}
use Rattle.path_faults.specs.LiveViews.{has_live}
use Rattle.path_faults.proofs.live.LiveGroups.add_node.Given as goal

-- what was added, with what is left, is the whole
abbrev pub invariant-loop-place : goal.invariant-loop-place
invariant-loop-place g l =
    (at order j : ℕ)
    → (has_live l.self at order j
    || any_from
    (λ i v. is_live_group v (g.A.Arrivals.groups l.arrivals i l.node.node) && is_same_place l.node.at l.node.order i at order j)
    l.place (map variable_view (drop l.place l.variables)))
    ≡ (has_live l.initial.self at order j
    || is_live_at (map variable_view l.variables) (g.A.Arrivals.groups l.arrivals) l.node.node l.node.at l.node.order at order j)

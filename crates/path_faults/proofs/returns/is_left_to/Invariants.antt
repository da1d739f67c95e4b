use Rattle.std.proofs.Common.{◌≡◌, ◌&&◌, ℕ, Bool, Some, drop, map}
use Rattle.meaning.specs.Uses.{is_group}
use Rattle.meaning.specs.BodyEvents.{Variable}
use Rattle.meaning.specs.Classes.{pending}
use Rattle.events.specs.VariableViews.{variable_view}
use Rattle.path_faults.specs.FoundFaults.{any_from}
use Rattle.path_faults.proofs.returns.is_left_to.Given as goal

-- the test of those that are left is that of all
abbrev pub invariant-loop-group_place : goal.invariant-loop-group_place
invariant-loop-group_place g l =
    let test : ℕ → Variable → Bool = λ j v.
    is_group (Some v.kind) && (g.A.Arrivals.cancels l.at.arrivals.now l.place l.at.node.node (pending v.number)
    && g.L.Lives.lives l.at.live.now l.at.node j) in
    any_from test l.group_place (map variable_view (drop l.group_place l.at.variables.now))
    ≡ any_from test 0 (map variable_view l.at.variables.now)

use Rattle.std.proofs.Common.{◌≡◌, ◌==◌, ◌&&◌, drop, map, Some}
use Rattle.events.specs.VariableViews.{variable_view}
use Rattle.meaning.specs.Uses.{is_group}
use Rattle.path_faults.specs.FoundFaults.{any_from}
use Rattle.ways.proofs.ends.End.lives.Given as goal

-- the test of those that are left is that of all
abbrev pub invariant-loop-place : goal.invariant-loop-place
invariant-loop-place g l =
    any_from (λ j v. is_group (Some v.kind) && ((v.number == l.number) && g.L.Lives.lives l.self.live.now l.node j))
    l.place (map variable_view (drop l.place l.self.variables.now))
    ≡ any_from (λ j v. is_group (Some v.kind) && ((v.number == l.number) && g.L.Lives.lives l.self.live.now l.node j))
    0 (map variable_view l.self.variables.now)

use Rattle.std.proofs.Common.{◌≡◌, ℕ, ◌++◌, drop}
use Rattle.facts.specs.FactViews.{kind_view}
use Rattle.tracked.specs.LocalViews.{local_view}
use Rattle.events.specs.VariableViews.{variables_in, captured_among}
use Rattle.events.proofs.found.add_captured.Given as goal

-- what was added, with what is left, is the whole
abbrev pub invariant-loop-index : goal.invariant-loop-index
invariant-loop-index l =
    (body : ℕ)
    → variables_in l.lists body ++ captured_among (local_view l.tracked.local) (kind_view l.tracked.kind) body (drop l.index l.bodies.entries)
    ≡ variables_in l.initial.lists body ++ captured_among (local_view l.tracked.local) (kind_view l.tracked.kind) body l.bodies.entries

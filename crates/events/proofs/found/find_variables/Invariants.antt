use Rattle.std.proofs.Common.{◌≡◌, ℕ, ◌++◌, drop}
use Rattle.tracked.specs.LocalViews.{seen_view}
use Rattle.meaning.specs.BodyEvents.{variables_among}
use Rattle.events.specs.VariableViews.{variables_in}
use Rattle.events.proofs.found.find_variables.Given as goal

-- what was added, with what is left, is the whole
abbrev pub invariant-loop-number : goal.invariant-loop-number
invariant-loop-number l =
    (body : ℕ)
    → variables_in l.lists body ++ variables_among (seen_view l.seen) body (drop l.number-index l.number-items)
    ≡ variables_among (seen_view l.seen) body l.number-items

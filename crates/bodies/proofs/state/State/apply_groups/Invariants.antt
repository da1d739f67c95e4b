use Rattle.std.proofs.Common.{ℕ}
use Rattle.tracked_rows.specs.EventViews.{event_view}
use Rattle.bodies.specs.BitSteps.{group_step}
use Rattle.bodies.specs.StateWords.{ChangesFirst}
use Rattle.bodies.proofs.state.State.apply_groups.Given as goal

-- the masks of the groups so far are changed
abbrev pub invariant-loop-place : goal.invariant-loop-place
invariant-loop-place g l =
    ChangesFirst 768 4 (λ (number : ℕ). group_step (g.P.Promises.promises l.promises) number (event_view l.event))
    l.variables.groups.now l.place l.initial.self.words l.self.words

use Rattle.std.proofs.Common.{ℕ}
use Rattle.tracked_rows.specs.EventViews.{event_view}
use Rattle.bodies.specs.BitSteps.{cancel_step}
use Rattle.bodies.specs.StateWords.{ChangesFirst}
use Rattle.bodies.proofs.state.State.apply_cancels.Given as goal

-- the masks of the variables so far are changed
abbrev pub invariant-loop-place : goal.invariant-loop-place
invariant-loop-place g l =
    ChangesFirst 0 16
    (λ (number : ℕ). cancel_step (g.P.Promises.promises l.promises) number l.variables.pending.now (event_view l.event))
    l.variables.cancels.now l.place l.initial.self.words l.self.words

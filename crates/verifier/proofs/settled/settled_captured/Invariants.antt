use Rattle.std.proofs.Common.{◌≡◌, ℕ, Bool, true}
use Rattle.std.specs.Prelude.{◌↔◌}
use Rattle.checker.specs.LaidOutViews.{IsLaidOut, body_of, states_view}
use Rattle.credits.specs.CreditViews.{is_among}
use Rattle.meaning.specs.Classes.{Promises}
use Rattle.verifier.specs.SettledPlaces.{SettlesBefore}
use Rattle.verifier.proofs.settled.settled_captured.Given as goal

-- the numbers so far are those of the variables before the place
abbrev pub invariant-loop-place : goal.invariant-loop-place
invariant-loop-place l =
    IsLaidOut l.laid_out → (p : Promises) (claims : ℕ → Bool) (number : ℕ)
    → (is_among l.numbers.items number ≡ true) ↔ SettlesBefore (body_of l.laid_out p claims) (states_view l.states) l.place number

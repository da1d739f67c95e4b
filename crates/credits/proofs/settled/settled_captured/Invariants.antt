use Rattle.std.proofs.Common.{◌≡◌, ℕ, true, map}
use Rattle.std.specs.Prelude.{◌↔◌}
use Rattle.meaning_packages.specs.PathFaults.{Paths}
use Rattle.events.specs.VariableViews.{variable_view}
use Rattle.credits.specs.BodyPaths.{TellsPaths}
use Rattle.credits.specs.CreditViews.{is_among}
use Rattle.credits.specs.SettledVariables.{SettlesBefore}
use Rattle.credits.proofs.settled.settled_captured.Given as goal

-- the numbers so far are those of the variables before the place
abbrev pub invariant-loop-place : goal.invariant-loop-place
invariant-loop-place g l =
    (b : Paths)
    → TellsPaths b l.graph (map variable_view l.variables) (g.A.Arrivals.cancels l.arrivals) (g.A.Arrivals.groups l.arrivals)
    → (number : ℕ)
    → (is_among l.numbers.items number ≡ true) ↔ SettlesBefore b l.place number

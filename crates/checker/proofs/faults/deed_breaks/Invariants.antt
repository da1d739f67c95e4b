use Rattle.std.proofs.Common.{◌≡◌, ℕ, Bool, drop, map}
use Rattle.events.specs.VariableViews.{variable_view}
use Rattle.meaning.specs.BodyEvents.{Variable}
use Rattle.path_faults.specs.FaultViews.{deed_view}
use Rattle.path_faults.specs.FoundFaults.{any_from}
use Rattle.checker.specs.CertificateTests.{is_broken}
use Rattle.checker.proofs.faults.deed_breaks.Given as goal

-- the test of those that are left is that of all
abbrev pub invariant-loop-place : goal.invariant-loop-place
invariant-loop-place g l =
    let test : ℕ → Variable → Bool =
    is_broken (map variable_view l.at.variables.now) (g.A.Arrivals.cancels l.at.arrivals.now)
    (g.A.Arrivals.groups l.at.arrivals.now) (g.A.Arrivals.pending_groups l.at.arrivals.now)
    (g.L.Lives.lives l.at.live.now l.at.node) (g.C.Claims.claims l.claims) l.at.node.node (deed_view l.deed) in
    any_from test l.place (map variable_view (drop l.place l.at.variables.now))
    ≡ any_from test 0 (map variable_view l.at.variables.now)

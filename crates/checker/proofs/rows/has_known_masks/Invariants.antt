use Rattle.std.proofs.Common.{◌≡◌, ℕ, Bool, drop, map}
use Rattle.events.specs.VariableViews.{variable_view}
use Rattle.meaning.specs.BodyEvents.{Variable}
use Rattle.bodies.specs.MaskTests.{has_known_bits}
use Rattle.checker.specs.CertificateTests.{all_from, mask_in}
use Rattle.checker.proofs.rows.has_known_masks.Given as goal

-- the test of those that are left is that of all
abbrev pub invariant-loop-place : goal.invariant-loop-place
invariant-loop-place l =
    let test : ℕ → Variable → Bool = λ i v. has_known_bits l.edition v.kind (mask_in l.row i) in
    all_from test l.place (map variable_view (drop l.place l.variables)) ≡ all_from test 0 (map variable_view l.variables)

use Rattle.std.proofs.Common.{◌≡◌, ℕ, Bool, drop, map}
use Rattle.events.specs.VariableViews.{variable_view}
use Rattle.meaning.specs.BodyEvents.{Variable}
use Rattle.checker.specs.CertificateTests.{all_from, mask_in, has_entry}
use Rattle.checker.proofs.entry.has_entries.Given as goal

-- the test of those that are left is that of all
abbrev pub invariant-loop-place : goal.invariant-loop-place
invariant-loop-place l =
    let test : ℕ → Variable → Bool = λ i v. has_entry l.laid_out.groups.items v.role (mask_in l.masks i) v.kind in
    all_from test l.place (map variable_view (drop l.place l.laid_out.variables.now))
    ≡ all_from test 0 (map variable_view l.laid_out.variables.now)

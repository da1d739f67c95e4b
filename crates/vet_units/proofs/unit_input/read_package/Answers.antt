use Rattle.std.proofs.Common.{◌≡◌, ◌∙◌, ℕ, Contains, List, map, string_bytes, subst}
use Rattle.folders.proofs.HandedOn.{handed_on}
use Rattle.folders.specs.ReadFaults.{IsReadFaultOf}
use Rattle.folders.specs.UnitFiles.{picked_files}
use Rattle.vet_units.proofs.unit_input.read_package.Goals as goal

pub returns-in_err-sources-clause-fault : goal.returns-in_err-sources-clause-fault
returns-in_err-sources-clause-fault g c =
    let with_tests = c.args.flags.now.with_tests in
    let unit = c.args.unit.now in
    let fault = c.in_err-sources.field-0.0 in
    let names : List (List ℕ) = picked_files with_tests (string_bytes unit.folder) (map string_bytes unit.files.items) in
    let same : map string_bytes c.in_ok-files.files.items ≡ names =
    c.in_ok-files.ensures
    ∙ (λ i. picked_files with_tests (c.as_str.ensures.value i) (map string_bytes (c.deref.ensures.value i))) in
    handed_on c.from_residual-in_err-sources.result fault (IsReadFaultOf (Contains names))
    c.from_residual-in_err-sources.ensures.1
    (subst (λ (paths : List (List ℕ)). IsReadFaultOf (Contains paths) fault) same c.in_err-sources.ensures.fault)

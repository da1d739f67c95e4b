use Rattle.std.proofs.Common.{rules, ◌≡◌, ◌⊎◌, Option, None, Some, subst}
use Rattle.serde_json.specs.Data.{Data}
use Rattle.json_reading.specs.Standing.{Judges, Refutes}
use Rattle.vetx_json.specs.declared.fault.VetxFault.TheVariants.{WrongShape}
use Rattle.vetx_json.specs.declared.vetx.Vetx.{Vetx}
use Rattle.vetx_json.specs.KeptUnits.{vetx_of}
use Rattle.vetx_json.specs.VetxValues.{IsVetxValue}
use Rattle.vetx_json.proofs.VetxLaws.{in_order, no_other, only_memory, wrong_shape}
use Rattle.vetx_json.proofs.read.from_json.Goals as goal

-- what the first reading says of the value
abbrev IsRead : Data → Option Vetx → Type 0
IsRead = Judges (λ value kept. IsVetxValue value (vetx_of kept)) (Refutes IsVetxValue)

pub returns-in-Some-clause-in_order : goal.returns-in-Some-clause-in_order
returns-in-Some-clause-in_order c =
    let read = c.in_ok-kept.ensures.ok in
    in_order read.0 (vetx_of c.in-Some.kept) (subst (IsRead read.0) c.in-Some.is read.2)

pub returns-in-Some-clause-no_other : goal.returns-in-Some-clause-no_other
returns-in-Some-clause-no_other c = λ other.
    let read = c.in_ok-kept.ensures.ok in
    no_other c.args.text.now read.0 (vetx_of c.in-Some.kept) other read.1
    (subst (IsRead read.0) c.in-Some.is read.2)

pub returns-in-None-2-clause-fault : goal.returns-in-None-2-clause-fault
returns-in-None-2-clause-fault c =
    let read = c.in_ok-kept.ensures.ok in
    let version = c.in_ok-version_of-in-None.field-0 in
    let either : (version ≡ None) ⊎ (version ≡ Some 1) = search rules in
    wrong_shape c.args.text.now read.0 read.1 (subst (IsRead read.0) c.in-None.is read.2) version
    c.in_ok-version_of-in-None.ensures.ok either

pub returns-in-None-2-clause-only_memory : goal.returns-in-None-2-clause-only_memory
returns-in-None-2-clause-only_memory c =
    let read = c.in_ok-kept.ensures.ok in
    only_memory c.args.text.now read.0 read.1 (subst (IsRead read.0) c.in-None.is read.2) WrongShape

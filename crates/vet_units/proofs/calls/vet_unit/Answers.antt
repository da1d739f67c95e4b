use Rattle.std.proofs.Common.{◌≡◌, inl, inr, refl}
use Rattle.folders.specs.declared.fault.Fault.TheVariants.{CannotWrite}
use Rattle.folders.proofs.HandedOn.{handed_on}
use Rattle.vet_units.specs.UnitRuns.{IsPrintBegun, IsUnitRunFault, OfUnit}
use Rattle.vet_units.proofs.FlagFaults.{handed_once, is_not_refused, is_run_fault, left_to_another}
use Rattle.vet_units.proofs.ForUnits.{for_unit}
use Rattle.vet_units.proofs.calls.vet_unit.Goals as goal

pub returns-in_err-done-in-Ok-clause-fault : goal.returns-in_err-done-in-Ok-clause-fault
returns-in_err-done-in-Ok-clause-fault g c =
    handed_on c.from_residual-in_err-done-in-Ok.result c.in_err-done-in-Ok.field-0.0
    (IsUnitRunFault c.args.flags.now c.args.file.now) c.from_residual-in_err-done-in-Ok.ensures.1
    (inr (record {
      read = c.in_ok-read.read;
      is_read = c.in_ok-read.ensures.read;
      is_fault = c.in_err-done-in-Ok.ensures.fault;
    }))

pub returns-in_err-done-in-Ok-clause-begun : goal.returns-in_err-done-in-Ok-clause-begun
returns-in_err-done-in-Ok-clause-begun g c =
    let flags = c.args.flags.now in
    let file = c.args.file.now in
    let old = g.W.Write.contents c.args.out.now in
    let new = g.W.Write.contents c.run_unit.new.out in
    handed_on c.from_residual-in_err-done-in-Ok.result c.in_err-done-in-Ok.field-0.0
    (λ told. told ≡ CannotWrite → OfUnit flags file (IsPrintBegun old new)) c.from_residual-in_err-done-in-Ok.ensures.1
    (λ e. record {
      read = c.in_ok-read.read;
      is_read = c.in_ok-read.ensures.read;
      so = c.in_err-done-in-Ok.ensures.begun e;
    })

pub returns-in-Ok-clause-told : goal.returns-in-Ok-clause-told
returns-in-Ok-clause-told g c =
    let done = c.in_ok-done-in-Ok.ensures.done in
    inl (record {
      read = c.in_ok-read.read;
      is_read = c.in_ok-read.ensures.read;
      so =
          for_unit c.args.flags.now _ done.input done.judged _ done.is_input done.is_judged
          (c.in_ok-done-in-Ok.done.file, done.so);
    })

pub returns-clause-told : goal.returns-clause-told
returns-clause-told g c =
    let out = g.W.Write.contents c.args.out.now in
    left_to_another c.args.flags.now c.fail_once.result c.args.file.now out out c.in_ok-read.read c.in-Err.fault
    c.in_ok-read.ensures.read c.in-Err.ensures.fault refl c.fail_once.ensures.fine

pub returns-clause-fault : goal.returns-clause-fault
returns-clause-fault g c =
    let flags = c.args.flags.now in
    let r = c.fail_once.result in
    is_run_fault flags r c.args.file.now c.in_ok-read.read c.in_ok-read.ensures.read
    (handed_once flags r c.in-Err.fault c.in-Err.ensures.fault c.fail_once.ensures.fault)

pub returns-clause-refused : goal.returns-clause-refused
returns-clause-refused g c =
    let flags = c.args.flags.now in
    let r = c.fail_once.result in
    is_not_refused flags _ r (handed_once flags r c.in-Err.fault c.in-Err.ensures.fault c.fail_once.ensures.fault)

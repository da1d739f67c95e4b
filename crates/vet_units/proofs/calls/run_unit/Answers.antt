use Rattle.std.proofs.Common.{inl, inr, subst}
use Rattle.std.specs.Io.KnownBytes.{Appends}
use Rattle.unit_config.specs.UnitValues.{unit_of}
use Rattle.folders.proofs.HandedOn.{handed_on}
use Rattle.printed.specs.Printing.{AppendsFront}
use Rattle.vet_units.specs.UnitRuns.{IsFaultFor}
use Rattle.inputs.proofs.ReadGiven.{on_err}
use Rattle.vet_units.proofs.ForUnits.{for_unit}
use Rattle.vet_units.proofs.calls.run_unit.Goals as goal

pub returns-in_err-judged-clause-fault : goal.returns-in_err-judged-clause-fault
returns-in_err-judged-clause-fault g c =
    handed_on c.from_residual-in_err-judged.result c.in_err-judged.field-0.0
    (IsFaultFor c.args.flags.now (unit_of c.args.unit.now)) c.from_residual-in_err-judged.ensures.1
    (inr (inl (c.in_ok-input.input, c.in_ok-input.ensures.read, c.in_err-judged.ensures.fault)))

pub returns-in_err-print-clause-begun : goal.returns-in_err-print-clause-begun
returns-in_err-print-clause-begun g c =
    let old = g.W.Write.contents c.args.out.now in
    let new = g.W.Write.contents c.print.new.out in
    on_err c.from_residual-in_err-print.result
    (λ fault e. for_unit c.args.flags.now (unit_of c.args.unit.now) c.in_ok-input.input c.in_ok-judged.judged _
    c.in_ok-input.ensures.read c.in_ok-judged.ensures.judged
    (subst (AppendsFront old new) c.said_of.ensures c.in_err-print.ensures.begun))

pub returns-clause-done : goal.returns-clause-done
returns-clause-done g c =
    let old = g.W.Write.contents c.args.out.now in
    let new = g.W.Write.contents c.print.new.out in
    for_unit c.args.flags.now (unit_of c.args.unit.now) c.in_ok-input.input c.in_ok-judged.judged _
    c.in_ok-input.ensures.read c.in_ok-judged.ensures.judged (record {
      is_kept = c.in_ok-file.ensures.kept;
      is_status = c.status_of.ensures;
      is_printed = subst (Appends old new) c.said_of.ensures c.in_ok-print.ensures.written;
    })

use Rattle.std.proofs.Common.{IfErr, subst, sym}
use Rattle.command_line.specs.VetViews.{call_of}
use Rattle.vet_units.specs.UnitRuns.{FailsByCall}
use Rattle.vet_units.proofs.CallFaults.{unit_fails}
use Rattle.vet_units.proofs.calls.vet.Goals as goal

pub returns-in-Unit-clause-fails : goal.returns-in-Unit-clause-fails
returns-in-Unit-clause-fails g c =
    let old = g.W.Write.contents c.args.out.now in
    let new = g.W.Write.contents c.vet_unit.new.out in
    let said = c.vet_unit.ensures in
    subst (λ asked. IfErr c.vet_unit.result (FailsByCall (call_of asked) old new)) (sym c.in-Unit.is)
    (unit_fails c.vet_unit.result c.in-Unit.flags c.in-Unit.file.now old new said.fault said.unwritten said.begun)

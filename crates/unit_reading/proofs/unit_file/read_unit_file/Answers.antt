use Rattle.unit_reading.specs.UnitsTold.{IsUnitFileFault}
use Rattle.folders.proofs.HandedOn.{handed_on}
use Rattle.unit_reading.proofs.UnitFaults.{of_unit_bytes, of_unit_read}
use Rattle.unit_reading.proofs.unit_file.read_unit_file.Goals as goal

pub returns-in_err-file-clause-fault : goal.returns-in_err-file-clause-fault
returns-in_err-file-clause-fault g c =
    let name = c.args.name.now in
    let fault = c.in_err-file.field-0.0 in
    handed_on c.from_residual.result fault (IsUnitFileFault name) c.from_residual.ensures.1
    (of_unit_read name fault c.in_err-file.ensures.fault)

pub returns-in_err-unit-clause-fault : goal.returns-in_err-unit-clause-fault
returns-in_err-unit-clause-fault g c =
    let name = c.args.name.now in
    let fault = c.in_err-unit.field-0.0 in
    handed_on c.from_residual-in_err-unit.result fault (IsUnitFileFault name) c.from_residual-in_err-unit.ensures.1
    (of_unit_bytes name _ c.in_ok-file.file c.in_ok-file.ensures.read c.bytes.ensures fault c.in_err-unit.ensures.fault)

use Rattle.std.proofs.Common.{rules}
use Rattle.unit_config.specs.UnitTexts.{IsUnitFault}
use Rattle.unit_reading.proofs.unit_file.unit_in.Goals as goal

pub returns-in-Err-clause-fault : goal.returns-in-Err-clause-fault
returns-in-Err-clause-fault c =
    let bytes = c.args.bytes.now in
    let is : IsUnitFault bytes c.in-Err.fault = search rules in c.fault_of_unit.ensures bytes is

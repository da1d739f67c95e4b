use Rattle.unit_config.specs.UnitValues.{unit_of}
use Rattle.unit_reading.specs.ToldImports.{IsToldFault}
use Rattle.folders.proofs.HandedOn.{handed_on}
use Rattle.unit_reading.proofs.UnitFaults.{of_file, of_reading}
use Rattle.unit_reading.proofs.vetx_input.told_of.Goals as goal

pub returns-in_err-file-clause-fault : goal.returns-in_err-file-clause-fault
returns-in_err-file-clause-fault g c =
    let by = c.args.by in
    let unit = unit_of c.args.unit.now in
    let fault = c.in_err-file.field-0.0 in
    handed_on c.from_residual.result fault (IsToldFault by.edition by.digest.now unit) c.from_residual.ensures.1
    (of_reading by.edition by.digest.now unit c.args.import.now c.in-Some.path.now c.in-Some-get.name.now c.in-Some.ensures
    c.in-Some-get.ensures fault c.in_err-file.ensures.fault)

pub returns-in_err-kept-clause-fault : goal.returns-in_err-kept-clause-fault
returns-in_err-kept-clause-fault g c =
    let by = c.args.by in
    let unit = unit_of c.args.unit.now in
    let fault = c.in_err-kept.field-0.0 in
    handed_on c.from_residual-in_err-kept.result fault (IsToldFault by.edition by.digest.now unit)
    c.from_residual-in_err-kept.ensures.1
    (of_file by.edition by.digest.now unit c.args.import.now c.in-Some.path.now c.without_suffix.result.now
    c.in-Some-get.name.now c.in_ok-file.file c.in-Some.ensures c.without_suffix.ensures c.in-Some-get.ensures
    c.in_ok-file.ensures.read fault c.in_err-kept.ensures.fault)

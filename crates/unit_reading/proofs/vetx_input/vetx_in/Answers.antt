use Rattle.std.proofs.Common.{rules}
use Rattle.vetx_json.specs.VetxTexts.{IsVetxFault}
use Rattle.unit_reading.proofs.vetx_input.vetx_in.Goals as goal

pub returns-in-Err-from_json-clause-fault : goal.returns-in-Err-from_json-clause-fault
returns-in-Err-from_json-clause-fault c =
    let bytes = c.args.bytes.now in
    let is : IsVetxFault bytes c.in-Err-from_json.fault = search rules in c.fault_of_vetx.ensures bytes is

use Rattle.std.proofs.Common.{rules}
use Rattle.baseline_json.specs.BaselineTexts.{IsBaselineFault}
use Rattle.inputs.proofs.baseline_input.findings_of.Goals as goal

pub returns-in-Err-from_json-clause-fault : goal.returns-in-Err-from_json-clause-fault
returns-in-Err-from_json-clause-fault c =
    let bytes = c.args.bytes.now in
    let is : IsBaselineFault bytes c.in-Err-from_json.fault = search rules in c.fault_of_baseline.ensures bytes is

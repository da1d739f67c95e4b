use Rattle.std.proofs.Common.{rules}
use Rattle.declared_json.specs.DeclaredTexts.{IsDeclaredFault}
use Rattle.inputs.proofs.facts_input.facts_of.Goals as goal

pub returns-in-Err-from_json-clause-fault : goal.returns-in-Err-from_json-clause-fault
returns-in-Err-from_json-clause-fault c =
    let bytes = c.args.bytes.now in
    let is : IsDeclaredFault bytes c.in-Err-from_json.fault = search rules in c.fault_of_facts.ensures bytes is

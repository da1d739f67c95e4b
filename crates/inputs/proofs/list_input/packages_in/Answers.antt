use Rattle.std.proofs.Common.{rules}
use Rattle.package_list.specs.ListTexts.{IsListFault}
use Rattle.inputs.proofs.list_input.packages_in.Goals as goal

pub returns-in-Err-clause-fault : goal.returns-in-Err-clause-fault
returns-in-Err-clause-fault c =
    let bytes = c.args.bytes.now in
    let is : IsListFault bytes c.in-Err.fault = search rules in c.fault_of_list.ensures bytes is

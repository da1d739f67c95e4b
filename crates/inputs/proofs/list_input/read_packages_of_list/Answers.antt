use Rattle.std.proofs.Common.{subst, sym}
use Rattle.command_line.specs.Words.{option_texts}
use Rattle.folders.proofs.HandedOn.{handed_on}
use Rattle.inputs.specs.PackageLists.{IsListBytesFault, IsReadListFault}
use Rattle.inputs.proofs.FaultsRead.{of_list_bytes}
use Rattle.inputs.proofs.list_input.read_packages_of_list.Goals as goal

pub returns-in_err-packages-in-Some-clause-fault : goal.returns-in_err-packages-in-Some-clause-fault
returns-in_err-packages-in-Some-clause-fault g c =
    let fault = c.in_err-packages-in-Some.field-0.0 in
    handed_on c.from_residual-in_err-packages-in-Some.result fault (IsReadListFault (option_texts c.args.name))
    c.from_residual-in_err-packages-in-Some.ensures.1
    (subst (λ name. IsReadListFault (option_texts name) fault) (sym c.in-Some.is)
    (of_list_bytes c.in-Some.name.now c.in_ok-file-in-Some.file c.in_ok-file-in-Some.ensures.read fault
    (subst (λ bytes. IsListBytesFault bytes fault) c.bytes.ensures c.in_err-packages-in-Some.ensures.fault)))

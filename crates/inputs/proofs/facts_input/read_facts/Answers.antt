use Rattle.std.proofs.Common.{subst, sym}
use Rattle.command_line.specs.Words.{option_texts}
use Rattle.folders.proofs.HandedOn.{handed_on}
use Rattle.inputs.specs.DeclaredFacts.{IsFactsFault, IsReadFactsFault}
use Rattle.inputs.proofs.FaultsRead.{of_bytes_in}
use Rattle.inputs.proofs.facts_input.read_facts.Goals as goal

pub returns-in_err-outside-in-Some-clause-fault : goal.returns-in_err-outside-in-Some-clause-fault
returns-in_err-outside-in-Some-clause-fault g c =
    let fault = c.in_err-outside-in-Some.field-0.0 in
    handed_on c.from_residual-in_err-outside-in-Some.result fault (IsReadFactsFault (option_texts c.args.name))
    c.from_residual-in_err-outside-in-Some.ensures.1
    (subst (λ name. IsReadFactsFault (option_texts name) fault) (sym c.in-Some.is)
    (of_bytes_in IsFactsFault c.in-Some.name.now c.in_ok-file-in-Some.file (λ bytes text is. is) c.in_ok-file-in-Some.ensures.read fault
    (subst (λ bytes. IsFactsFault bytes fault) c.bytes.ensures c.in_err-outside-in-Some.ensures.fault)))

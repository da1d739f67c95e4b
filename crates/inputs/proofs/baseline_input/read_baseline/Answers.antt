use Rattle.std.proofs.Common.{subst, sym}
use Rattle.command_line.specs.Words.{option_texts}
use Rattle.folders.proofs.HandedOn.{handed_on}
use Rattle.inputs.specs.BaselinesRead.{IsBaselineBytesFault, IsReadBaselineFault}
use Rattle.inputs.proofs.FaultsRead.{of_bytes_in}
use Rattle.inputs.proofs.baseline_input.read_baseline.Goals as goal

pub returns-in_err-found-in-Some-clause-fault : goal.returns-in_err-found-in-Some-clause-fault
returns-in_err-found-in-Some-clause-fault g c =
    let fault = c.in_err-found-in-Some.field-0.0 in
    handed_on c.from_residual-in_err-found-in-Some.result fault (IsReadBaselineFault (option_texts c.args.name))
    c.from_residual-in_err-found-in-Some.ensures.1
    (subst (λ name. IsReadBaselineFault (option_texts name) fault) (sym c.in-Some.is)
    (of_bytes_in IsBaselineBytesFault c.in-Some.name.now c.in_ok-file-in-Some.file (λ bytes text is. is) c.in_ok-file-in-Some.ensures.read fault
    (subst (λ bytes. IsBaselineBytesFault bytes fault) c.bytes.ensures c.in_err-found-in-Some.ensures.fault)))

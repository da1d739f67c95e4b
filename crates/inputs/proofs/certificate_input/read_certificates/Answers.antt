use Rattle.std.proofs.Common.{subst}
use Rattle.folders.proofs.HandedOn.{handed_on}
use Rattle.inputs.proofs.FaultsRead.{of_certificate_bytes, of_certificate_read}
use Rattle.inputs.proofs.ReadGiven.{weaker_on_err}
use Rattle.std.proofs.lemmas.Result.{IfOk-weaker}
use Rattle.inputs.specs.Certificates.{AreTextOf, IsBytesFault, IsInputFault}
use Rattle.inputs.proofs.certificate_input.read_certificates.Goals as goal

pub returns-clause-read : goal.returns-clause-read
returns-clause-read g c =
    IfOk-weaker c.certificates_of.result _ _
    (λ certificates text. record {
      file = c.in_ok-file.file;
      is_named = c.in_ok-file.ensures.read;
      are_text = subst (λ bytes. AreTextOf bytes certificates) c.bytes.ensures text;
    }) c.certificates_of.ensures.read

pub returns-in_err-file-clause-fault : goal.returns-in_err-file-clause-fault
returns-in_err-file-clause-fault g c =
    let name = c.args.name.now in
    let fault = c.in_err-file.field-0.0 in
    handed_on c.from_residual.result fault (IsInputFault name) c.from_residual.ensures.1
    (of_certificate_read name fault c.in_err-file.ensures.fault)

pub returns-clause-fault : goal.returns-clause-fault
returns-clause-fault g c =
    weaker_on_err c.certificates_of.result
    (λ fault is. of_certificate_bytes c.args.name.now c.in_ok-file.file c.in_ok-file.ensures.read fault
    (subst (λ bytes. IsBytesFault bytes fault) c.bytes.ensures is)) c.certificates_of.ensures.fault

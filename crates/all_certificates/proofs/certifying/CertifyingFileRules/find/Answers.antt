use Rattle.std.proofs.Common.{true, map, refl, sym, subst}
use Rattle.all_certificates.proofs.CertifiedFiles.{of_all_walked}
use Rattle.calls_flags.specs.FilesBodies.{TellAll}
use Rattle.called_parameters.specs.Called.{flags_by_path, is_called}
use Rattle.certificate_json.specs.Certificates.{body_of}
use Rattle.all_certificates.proofs.certifying.CertifyingFileRules.find.Goals as goal

pub returns-clause-files : goal.returns-clause-files
returns-clause-files g c = λ declared ps tables i p is_p tells around told none.
    let found = c.in_ok-files.ensures ps tables i p true told is_p around none in
    record { are_flags = found.are_flags; each = found.each }

pub returns-clause-certified : goal.returns-clause-certified
returns-clause-certified g c = λ ps tables i p is_p tells around told none.
    let found = c.in_ok-files.ensures ps tables i p true told is_p around none in
    of_all_walked ps tables p told.walked (told.all refl) c.in_ok-files.field-0.files.items found.are_bodies
    (is_called c.in_ok-files.field-0.called) (flags_by_path c.args.around.calls.now) around.are_calls
    (map body_of c.in_ok-certificates.certificates.items)
    (λ fs tell. c.in_ok-certificates.ensures fs (subst (TellAll fs) (sym c.deref.ensures.value) tell))

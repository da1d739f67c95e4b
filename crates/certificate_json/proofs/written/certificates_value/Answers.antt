use Rattle.std.proofs.Common.{map, subst}
use Rattle.std.proofs.lemmas.Result.{IfOk-weaker}
use Rattle.std.specs.List.{AllZip}
use Rattle.serde_json.specs.View.{view}
use Rattle.certificate_json.specs.Certificates.{package_of, packages_of}
use Rattle.certificate_json.specs.Parts.{IsPackageText}
use Rattle.certificate_json.proofs.WritingBack.{whole_text}
use Rattle.certificate_json.proofs.written.certificates_value.Goals as goal

pub returns : goal.returns
returns c =
    let values = map view c.in_ok-packages.packages.items in
    IfOk-weaker c.certificates_object.result _ _ (λ value is.
    whole_text (packages_of c.args.certificates.now) (view value) values
    (subst (λ xs. AllZip IsPackageText (map package_of xs) values) c.deref.ensures.value c.in_ok-packages.ensures) is)
    c.certificates_object.ensures

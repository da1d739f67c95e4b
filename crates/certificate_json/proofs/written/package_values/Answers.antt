use Rattle.std.proofs.Common.{[], map, subst, sym}
use Rattle.std.specs.List.{AllZip}
use Rattle.std.proofs.lemmas.List.{append-nil}
use Rattle.std.proofs.Math.ListN.{drop_of_length-le}
use Rattle.serde_json.specs.View.{view}
use Rattle.certificate_json.specs.Certificates.{package_of}
use Rattle.certificate_json.specs.Parts.{IsPackageText}
use Rattle.certificate_json.proofs.written.package_values.Goals as goal

pub returns : goal.returns
returns c =
    subst (λ vs. AllZip IsPackageText (map package_of c.args.packages.now) vs)
    (append-nil (map view c.loop-entry.values.items))
    (c.loop-entry.invariant []
    (subst (λ ps. AllZip IsPackageText (map package_of ps) [])
    (sym (drop_of_length-le c.args.packages.now c.loop-entry-test.false)) tt))

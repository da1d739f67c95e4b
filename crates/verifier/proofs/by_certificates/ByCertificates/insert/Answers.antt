use Rattle.std.proofs.Common.{refl, string_bytes}
use Rattle.certificate_json.specs.Certificates.{package_of}
use Rattle.facts.proofs.FactMaps.{seen_as}
use Rattle.facts.proofs.FactParts.{on_ok}
use Rattle.first_values.specs.ValuesByName.{value_of}
use Rattle.verifier.proofs.by_certificates.ByCertificates.insert.Goals as goal

pub returns : goal.returns
returns c =
    on_ok c.insert.result
    (λ added. seen_as (λ p. package_of p.now) (value_of c.args.self.now.packages) (value_of c.insert.new.self)
    c.as_str.result.now c.args.found added (string_bytes c.args.found.now.path) c.as_str.ensures.value
    (package_of c.args.found.now) refl)
    c.insert.ensures.ok

use Rattle.std.proofs.Common.{◌≡◌, ◌++◌, drop, map}
use Rattle.std.specs.List.{AllByRecursion}
use Rattle.serde_json.specs.View.{view}
use Rattle.certificate_json.specs.Certificates.{body_of}
use Rattle.certificate_json.specs.CertificateValues.{body_value}
use Rattle.certificate_json.specs.Parts.{HasBodyFits}
use Rattle.certificate_json.proofs.written.body_values.Given as goal

-- the values so far, with those of what is left, are all; and where the bodies that are left fit, all do
abbrev pub invariant-loop-body : goal.invariant-loop-body
invariant-loop-body l = record {
  values :
      map view l.values.items ++ map body_value (map (λ b. body_of b.now) (drop l.body-index l.bodies))
      ≡ map body_value (map (λ b. body_of b.now) l.bodies);
  fit :
      AllByRecursion HasBodyFits (map (λ b. body_of b.now) (drop l.body-index l.bodies))
      → AllByRecursion HasBodyFits (map (λ b. body_of b.now) l.bodies);
}

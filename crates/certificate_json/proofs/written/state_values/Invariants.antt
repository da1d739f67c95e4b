use Rattle.std.proofs.Common.{◌≡◌, ◌++◌, drop, map}
use Rattle.std.specs.List.{AllByRecursion}
use Rattle.serde_json.specs.View.{view}
use Rattle.certificate_json.specs.CertificateValues.{masks_value}
use Rattle.certificate_json.specs.Parts.{AllSmall}
use Rattle.certificate_json.proofs.written.state_values.Given as goal

-- the values so far, with those of what is left, are all; and where the masks that are left are small, all are
abbrev pub invariant-loop-masks : goal.invariant-loop-masks
invariant-loop-masks l = record {
  values :
      map view l.values.items ++ map masks_value (map (λ ms. ms.items) (drop l.masks-index l.states))
      ≡ map masks_value (map (λ ms. ms.items) l.states);
  small :
      AllByRecursion AllSmall (map (λ ms. ms.items) (drop l.masks-index l.states))
      → AllByRecursion AllSmall (map (λ ms. ms.items) l.states);
}

-- A text is that of one list of packages at most, which is in order; and why a text is none.
use Rattle.std.proofs.Common.{◌≡◌, inl, inr, ℕ, List, [], ◌∷◌, Some, refl, sym, subst, ◌∙◌}
use Rattle.std.specs.List.{AllByRecursion, AllZip}
use Rattle.serde_json.specs.Data.{Data}
use Rattle.serde_json.specs.Read.{read}
use Rattle.table_json.specs.declared.table.Version.{Version}
use Rattle.table_json.proofs.Readings.{known, none_some}
use Rattle.table_json.proofs.TableLaws.{list_in_order, not_none, not_wrong_version}
use Rattle.table_json.proofs.ValueParts.{some_same}
use Rattle.certificate_json.specs.declared.fault.CertificateFault.{CertificateFault}
use Rattle.certificate_json.specs.declared.fault.CertificateFault.TheVariants.{NotJson, WrongVersion, WrongShape, OutOfMemory}
use Rattle.certificate_json.specs.Certificates.{PackageEntry, AreInOrder, HasOrder}
use Rattle.certificate_json.specs.CertificateTexts.{AreCertificatesOf, HasWrongShape, IsCertificateFault}
use Rattle.certificate_json.specs.CertificateValues.{AreCertificatesIn, IsPackageIn}
use Rattle.certificate_json.proofs.PackagesRead.{one_meaning, version_there}

-- What is read is in order

each_in_order : (version : Version) (values : List Data) (packages : List PackageEntry)
    → AllZip (IsPackageIn version) values packages
    → AllByRecursion HasOrder packages
each_in_order version [] [] h = tt
each_in_order version [] (p ∷ packages) h = absurd h
each_in_order version (v ∷ values) [] h = absurd h
each_in_order version (v ∷ values) (p ∷ packages) h = (
  record {
    bodies_rise = h.0.are_bodies.arranged.rise;
    facts_in_order = list_in_order version h.0.facts p.facts h.0.are_facts;
  },
  each_in_order version values packages h.1,
)

pub in_order : (version : Version) (value : Data) (packages : List PackageEntry)
    → AreCertificatesIn version value packages
    → AreInOrder packages
in_order version value packages h =
    record { apart = h.apart; each_in_order = each_in_order version h.values packages h.each }

-- A text is that of one list of packages at most

pub no_other : (text : List ℕ) (value : Data) (v w : Version) (packages other : List PackageEntry)
    → read text ≡ Some value
    → AreCertificatesIn v value packages
    → AreCertificatesOf text w other
    → (w ≡ v) × (other ≡ packages)
no_other text value v w packages other e h k =
    let same = some_same k.value value (sym k.is_json ∙ e) in
    one_meaning value w v other packages (subst (λ d. AreCertificatesIn w d other) same k.are_certificates) h

-- A text that is that of certificates is read, unless memory is refused

not_wrong_shape : (version : Version) (value : Data) (packages : List PackageEntry)
    → AreCertificatesIn version value packages
    → HasWrongShape value
    → ⊥
not_wrong_shape version value packages h (inl none) =
    not_none value (known version value (version_there version value packages h)) none
not_wrong_shape version value packages h (inr none) = none.1 version packages h

-- where the text is that of certificates, memory was refused
abbrev pub IsOfMemory : List ℕ → CertificateFault → Type 0
IsOfMemory text fault =
    (version : Version) (packages : List PackageEntry) → AreCertificatesOf text version packages → fault ≡ OutOfMemory

pub only_memory : (text : List ℕ) (fault : CertificateFault) → IsCertificateFault text fault → IsOfMemory text fault
only_memory text NotJson h version packages k = absurd (none_some (read text) k.value h k.is_json)
only_memory text WrongVersion h version packages k =
    let is =
    subst (λ d. AreCertificatesIn version d packages) (some_same k.value h.0 (sym k.is_json ∙ h.1))
    k.are_certificates in
    absurd (not_wrong_version h.0 (known version h.0 (version_there version h.0 packages is)) h.2)
only_memory text WrongShape h version packages k =
    let is =
    subst (λ d. AreCertificatesIn version d packages) (some_same k.value h.0 (sym k.is_json ∙ h.1))
    k.are_certificates in
    absurd (not_wrong_shape version h.0 packages is h.2)
only_memory text OutOfMemory h version packages k = refl

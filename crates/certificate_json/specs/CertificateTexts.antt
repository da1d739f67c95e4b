-- Which texts are those of certificates, and why a text is none. Versions are those of tables.
use Rattle.std.specs.Prelude.{ℕ, ◌≡◌, ◌⊎◌, List, Some, None, ⊤}
use Rattle.serde_json.specs.Data.{Data}
use Rattle.serde_json.specs.Read.{read}
use Rattle.table_json.specs.declared.table.Version.{Version}
use Rattle.table_json.specs.TableTexts.{version_of, HasKnownVersion, HasWrongVersion}
use Rattle.certificate_json.specs.declared.fault.CertificateFault.{CertificateFault}
use Rattle.certificate_json.specs.declared.fault.CertificateFault.TheVariants.{NotJson, WrongVersion, WrongShape, OutOfMemory}
use Rattle.certificate_json.specs.Certificates.{PackageEntry}
use Rattle.certificate_json.specs.CertificateValues.{AreCertificatesIn}

-- the text is that of the packages, in this version
pub record AreCertificatesOf (text : List ℕ) (version : Version) (packages : List PackageEntry) : Type 0 where
  pub value : Data
  pub is_json : read text ≡ Some value
  pub are_certificates : AreCertificatesIn version value packages

-- the version is missing or unfit, or it is one that is read and this is the value of no certificates
abbrev pub HasWrongShape : Data → Type 0
HasWrongShape value =
    (version_of value ≡ None)
    ⊎ (HasKnownVersion value
    × ((version : Version) (packages : List PackageEntry) → ¬ AreCertificatesIn version value packages))

-- why a text is not read
abbrev pub IsCertificateFault : List ℕ → CertificateFault → Type 0
IsCertificateFault text NotJson = read text ≡ None
IsCertificateFault text WrongVersion = (value : Data) × (read text ≡ Some value) × HasWrongVersion value
IsCertificateFault text WrongShape = (value : Data) × (read text ≡ Some value) × HasWrongShape value
IsCertificateFault text OutOfMemory = ⊤

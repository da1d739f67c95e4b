-- Certificates that are written are in order, where the trees of the packages are those of texts: so the text of what
-- is written reads back as exactly them.
use Rattle.std.specs.Prelude.{ℕ, ◌≡◌, List, Some, slice_get}
use Rattle.serde_json.specs.Written.{compact_text}
use Rattle.table_json.specs.declared.table.Version.TheVariants.{Newer}
use Rattle.certificate_json.specs.Certificates.{PackageEntry, AreInOrder}
use Rattle.certificate_json.specs.CertificateTexts.{AreCertificatesOf}
use Rattle.certificate_json.specs.CertificateValues.{certificates_value}
use Rattle.certificate_json.specs.WrittenCertificates.{IsWrittenText}
use Rattle.meaning_reports.specs.Loaded.{LoadedPackage, Tables}
use Rattle.meaning_runs.specs.Promise.{AreTreesOfTexts}
use Rattle.whole_packages.specs.LoadedViews.{HaveDistinctPaths}
use Rattle.all_certificates.specs.CertifiedPackages.{AreCertificatesOfAll}

-- the trees of each package are those of texts
abbrev pub AreAllOfTexts : List LoadedPackage → Type 0
AreAllOfTexts ps = (i : ℕ) (p : LoadedPackage) → slice_get ps i ≡ Some p → AreTreesOfTexts p

abbrev pub CertificatesAreInOrder : Type 0
CertificatesAreInOrder = (declared : Tables) (ps : List LoadedPackage) (entries : List PackageEntry)
    → AreCertificatesOfAll declared ps entries
    → HaveDistinctPaths ps
    → AreAllOfTexts ps
    → AreInOrder entries

-- it is their text, and reads back as them
pub record IsTextOf (entries : List PackageEntry) (text : List ℕ) : Type 0 where
  pub is_text : text ≡ compact_text (certificates_value entries)
  pub reads_back : AreCertificatesOf text Newer entries

abbrev pub CertificatesReadBack : Type 0
CertificatesReadBack =
    (declared : Tables) (ps : List LoadedPackage) (entries : List PackageEntry) (text : List ℕ)
    → AreCertificatesOfAll declared ps entries
    → HaveDistinctPaths ps
    → AreAllOfTexts ps
    → IsWrittenText entries text
    → IsTextOf entries text

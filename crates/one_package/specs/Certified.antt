-- The certificates of bodies that rules for files make beside what they say of these, and which of them are kept of a
-- package that was judged. Rules need not make any.
use Rattle.std.specs.Prelude.{ℕ, ◌≡◌, List, [], map}
use Rattle.called_parameters.specs.Called.{is_called}
use Rattle.certificate_json.specs.Certificates.{BodyEntry, body_of}
use Rattle.gathering.specs.Results.{AreRightBelow, HaveTold, Results, Tellings, tellings_of}
use Rattle.meaning_packages.specs.CallsFlags.{Flags}
use Rattle.meaning_reports.specs.Loaded.{LoadedPackage, Tables}
use Rattle.meaning_reports.specs.PackageReports.{Rules}
use Rattle.meaning_reports.specs.WholeFaults.{HasNoWholeFault, IsWholeFault}
use Rattle.report.specs.Entries.{Entry}
use Rattle.one_package.specs.declared.judged.Judged.{Judged}

-- what the certificates are of the bodies of a package without a fault as a whole, which has these flags
abbrev pub CertificateRule : Type 1
CertificateRule = List LoadedPackage → Tables → LoadedPackage → Flags → List BodyEntry → Type 0

-- none are made
abbrev pub no_certificates : CertificateRule
no_certificates ps tables p flags entries = entries ≡ []

abbrev pub certificates_in : Judged → List BodyEntry
certificates_in judged = map body_of judged.certificates.items

-- these are kept of the package: none where it has a fault as a whole
pub record HasCertificates
    (rule : CertificateRule) (ps : List LoadedPackage) (tables : Tables) (i : ℕ) (p : LoadedPackage) (judged : Judged)
    : Type 0 where
  pub of_bodies : HasNoWholeFault ps i → rule ps tables p (is_called judged.table.called) (certificates_in judged)
  pub are_none : (x : Entry) → IsWholeFault ps i x → certificates_in judged ≡ []

-- they are so by all tables that have what is told of the package's imports
abbrev pub CertificatesFollowTold
    : Rules → CertificateRule → List LoadedPackage → ℕ → LoadedPackage → Tellings → Judged → Type 0
CertificatesFollowTold rules rule ps i p told judged = (tables : Tables)
    → HaveTold rules ps tables i told
    → HasCertificates rule ps tables i p judged

-- by results of these
abbrev pub CertificatesFollow
    : Rules → CertificateRule → List LoadedPackage → ℕ → LoadedPackage → Results → Judged → Type 0
CertificatesFollow rules rule ps i p results judged =
    CertificatesFollowTold rules rule ps i p (tellings_of results) judged

-- they are so by all tables that are right below the package
abbrev pub AreCertified : Rules → CertificateRule → List LoadedPackage → ℕ → LoadedPackage → Judged → Type 0
AreCertified rules rule ps i p judged = (tables : Tables)
    → AreRightBelow rules ps tables i
    → HasCertificates rule ps tables i p judged

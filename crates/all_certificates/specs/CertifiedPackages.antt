-- The certificates of packages: of each package its import path, what its table says, and the least certificates of its
-- bodies, file by file, by the tables and by all that may be relied on of literals. A package with a fault of the whole
-- package has no table and no certificates of bodies.
use Rattle.std.specs.Prelude.{ℕ, ◌≡◌, Bool, List, [], length, Some, slice_get}
use Rattle.all_certificates.specs.CertifiedBodies.{AreOfFiles}
use Rattle.plain_tables.specs.Tables.{IsPlain}
use Rattle.certificate_json.specs.Certificates.{BodyEntry, PackageEntry}
use Rattle.meaning.specs.Uses.{Callee, Seen}
use Rattle.meaning_packages.specs.CallsFlags.{FileWithCredits, Flags, calls_by}
use Rattle.meaning_reports.specs.Loaded.{LoadedPackage, Tables, imported_flags, seen_files}
use Rattle.meaning_reports.specs.PackageTables.{AreCredited, AreTables}
use Rattle.meaning_reports.specs.WholeFaults.{HasNoWholeFault, IsWholeFault}
use Rattle.report.specs.Entries.{Entry}

-- of files that were seen so, by all credits
pub record AreOfBodies (calls : Callee → ℕ → Bool) (seens : List Seen) (entries : List BodyEntry) : Type 0 where
  pub files : List FileWithCredits
  pub are_files : AreCredited seens files
  pub are_of : AreOfFiles calls 0 files entries

-- of the package, which has no fault of the whole package and these flags
abbrev pub are_of_bodies : List LoadedPackage → Tables → LoadedPackage → Flags → List BodyEntry → Type 0
are_of_bodies ps tables p flags =
    AreOfBodies (calls_by flags (imported_flags p tables)) (seen_files ps tables p)

-- of the package at that place
pub record AreOfPackage
    (ps : List LoadedPackage) (tables : Tables) (i : ℕ) (p : LoadedPackage) (entries : List BodyEntry)
    : Type 0 where
  pub of_bodies : HasNoWholeFault ps i → are_of_bodies ps tables p (tables p.path).calls entries
  pub are_none : (x : Entry) → IsWholeFault ps i x → entries ≡ []

pub record IsCertificateOf
    (ps : List LoadedPackage) (tables : Tables) (i : ℕ) (p : LoadedPackage) (entry : PackageEntry)
    : Type 0 where
  pub is_path : entry.path ≡ p.path
  pub are_bodies : AreOfPackage ps tables i p entry.bodies
  pub are_facts : IsPlain (tables p.path) entry.facts

-- one for each package, in their order, by these tables
pub record AreCertificatesBy (ps : List LoadedPackage) (tables : Tables) (entries : List PackageEntry) : Type 0 where
  pub are_as_many : length entries ≡ length ps
  pub each : (i : ℕ) (p : LoadedPackage) (entry : PackageEntry)
      → slice_get ps i ≡ Some p
      → slice_get entries i ≡ Some entry
      → IsCertificateOf ps tables i p entry

-- the same by the packages' own tables, where this is declared of packages that were not given
pub record AreCertificatesOfAll (declared : Tables) (ps : List LoadedPackage) (entries : List PackageEntry)
    : Type 0 where
  pub tables : Tables
  pub are_tables : AreTables declared ps tables
  pub are_certificates : AreCertificatesBy ps tables entries

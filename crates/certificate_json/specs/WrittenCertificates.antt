-- What is written of certificates: the packages as they stand, the bodies of each by file and offset, and of its facts
-- what is written of a table.
use Rattle.std.specs.Prelude.{ℕ, ◌≡◌, true, List}
use Rattle.std.specs.List.{AllByRecursion, AllZip, list_all}
use Rattle.serde_json.specs.Written.{compact_text}
use Rattle.table_json.specs.declared.table.Version.TheVariants.{Newer}
use Rattle.table_json.specs.WrittenTables.{says_something, AreWritten, IsOrdered}
use Rattle.certificate_json.specs.Certificates.{PackageEntry, by_place, place_of, AreInOrder}
use Rattle.certificate_json.specs.CertificateTexts.{AreCertificatesOf}
use Rattle.certificate_json.specs.CertificateValues.{certificates_value}

pub record IsWrittenAs (p written : PackageEntry) : Type 0 where
  pub is_path : written.path ≡ p.path
  pub are_bodies : IsOrdered by_place place_of p.bodies written.bodies
  pub are_facts : AreWritten p.facts written.facts

-- the text of what is written of the packages; where no path comes twice in that, no body in a package, and no function
-- or position in its facts, it reads back as that
pub record IsWrittenText (packages : List PackageEntry) (text : List ℕ) : Type 0 where
  pub written : List PackageEntry
  pub are_written : AllZip IsWrittenAs packages written
  pub is_text : text ≡ compact_text (certificates_value written)
  pub reads_back : AreInOrder written → AreCertificatesOf text Newer written

-- something is told of each function among the facts
abbrev pub IsTold : PackageEntry → Type 0
IsTold p = list_all says_something p.facts ≡ true

-- certificates that are in order, and tell something of each function, are written as they stand
abbrev pub CertificatesInOrderAreWritten : Type 0
CertificatesInOrderAreWritten = (packages written : List PackageEntry)
    → AllZip IsWrittenAs packages written
    → AreInOrder packages
    → AllByRecursion IsTold packages
    → written ≡ packages

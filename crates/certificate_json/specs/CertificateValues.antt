-- Certificates as JSON: the value of certificates, as it is written, and which values are those of certificates when
-- they are read. As an object has each key once and in order, the order of keys is free in a text, and of equal keys
-- the last one counts. What is written is version 2. Version 1, whose facts know of no causes, is read too.
use Rattle.std.specs.Prelude.{ℕ, ◌≡◌, ◌<◌, ◌^◌, List, map, codes}
use Rattle.std.specs.List.{AllZip}
use Rattle.serde_json.specs.Data.{Data, string, object, member, no_members}
use Rattle.table_json.specs.declared.table.Version.{Version}
use Rattle.table_json.specs.TableValues.{whole, list, function_value, number_of, Fits, AreArrangedOf, AreFunctionsOf, IsFunctionIn}
use Rattle.certificate_json.specs.Certificates.{BodyEntry, PackageEntry, by_place, place_of, AreApart}

-- The value of certificates, in version 2

-- `{"at":n,"file":n,"states":[..]}`
abbrev pub body_with : ℕ → ℕ → List Data → Data
body_with at file states = object (
    member (codes "at") (whole at) (
    member (codes "file") (whole file) (
    member (codes "states") (list states) no_members)))

-- `[m,..]`
abbrev pub masks_value : List ℕ → Data
masks_value masks = list (map whole masks)

abbrev pub body_value : BodyEntry → Data
body_value b = body_with b.at b.file (map masks_value b.states)

-- `{"bodies":[B,..],"facts":[F,..],"path":s}`
abbrev pub package_with : List ℕ → List Data → List Data → Data
package_with path bodies facts = object (
    member (codes "bodies") (list bodies) (
    member (codes "facts") (list facts) (
    member (codes "path") (string path) no_members)))

-- the facts are the functions of a table
abbrev pub package_value : PackageEntry → Data
package_value p = package_with p.path (map body_value p.bodies) (map function_value p.facts)

-- `{"packages":[..],"version":n}`
abbrev pub certificates_with : ℕ → List Data → Data
certificates_with version packages = object (
    member (codes "packages") (list packages) (
    member (codes "version") (whole version) no_members))

abbrev pub certificates_value : List PackageEntry → Data
certificates_value packages = certificates_with 2 (map package_value packages)

-- Which values are those of bodies

-- a mask is a whole number from 0 to 65,535
abbrev pub IsSmall : ℕ → Type 0
IsSmall mask = mask < 2 ^ 16

abbrev pub IsMask : Data → ℕ → Type 0
IsMask value mask = (value ≡ whole mask) × IsSmall mask

-- the masks of one node: a list, of any length
pub record AreMasks (value : Data) (masks : List ℕ) : Type 0 where
  pub values : List Data
  pub is_value : value ≡ list values
  pub each : AllZip IsMask values masks

-- the file and the offset are whole numbers from 0 to 4,294,967,295, and there may be any number of nodes
pub record IsBodyValue (value : Data) (b : BodyEntry) : Type 0 where
  pub states : List Data
  pub is_value : value ≡ body_with b.at b.file states
  pub at_fits : Fits b.at
  pub file_fits : Fits b.file
  pub each : AllZip AreMasks states b.states

-- these are the values of the bodies, in any order: none comes twice
abbrev pub AreBodiesOf : List Data → List BodyEntry → Type 0
AreBodiesOf = AreArrangedOf IsBodyValue by_place place_of

-- Which values are those of packages and certificates

-- this is the value of the package in this version
pub record IsPackageIn (version : Version) (value : Data) (p : PackageEntry) : Type 0 where
  pub bodies : List Data
  pub facts : List Data
  pub is_value : value ≡ package_with p.path bodies facts
  pub are_bodies : AreBodiesOf bodies p.bodies
  pub are_facts : AreFunctionsOf (IsFunctionIn version) facts p.facts

-- this is the value of the packages in this version, in this order: no path comes twice
pub record AreCertificatesIn (version : Version) (value : Data) (packages : List PackageEntry) : Type 0 where
  pub values : List Data
  pub is_value : value ≡ certificates_with (number_of version) values
  pub each : AllZip (IsPackageIn version) values packages
  pub apart : AreApart packages

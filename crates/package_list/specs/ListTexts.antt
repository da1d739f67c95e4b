-- Which packages a text lists, and why it lists none.
use Rattle.std.specs.Prelude.{ℕ, ◌≡◌, ◌⊎◌, List, [], ◌∷◌, Option, Some, None, if◌then◌else◌, string_bytes, ⊤}
use Rattle.std.specs.List.{AllZip}
use Rattle.std.specs.Str.{IsUtf8}
use Rattle.serde_json.specs.Data.{Data}
use Rattle.serde_json.specs.Read.{read}
use Rattle.json_reading.specs.Standing.{SomeIs}
use Rattle.package_list.specs.declared.fault.ListFault.{ListFault}
use Rattle.package_list.specs.declared.fault.ListFault.TheVariants.{NotJson, WrongShape, Incomplete, Empty, OutOfMemory}
use Rattle.package_list.specs.ListedValues.{PackageEntry, package_in}
use Rattle.package_list.specs.Pieces.{pieces}

-- the piece is JSON of this value
pub record IsJsonOf (piece : List ℕ) (value : Data) : Type 0 where
  pub is_utf8 : IsUtf8 piece
  pub is_json : read piece ≡ Some value

-- it is JSON of none
abbrev pub IsNoJson : List ℕ → Type 0
IsNoJson piece = (IsUtf8 piece → ⊥) ⊎ (read piece ≡ None)

abbrev pub IsPackage : Data → PackageEntry → Type 0
IsPackage value entry = package_in value ≡ Some entry

abbrev pub IsNoPackage : Data → Type 0
IsNoPackage value = package_in value ≡ None

-- the pieces of the text are JSON of these values, one each
abbrev pub AreValuesIn : List ℕ → List Data → Type 0
AreValuesIn text values = AllZip IsJsonOf (pieces text) values

-- these are the packages of the text, one a value
pub record AreListedIn (text : List ℕ) (entries : List PackageEntry) : Type 0 where
  pub values : List Data
  pub are_values : AreValuesIn text values
  pub are_packages : AllZip IsPackage values entries

-- the path of the first of them that the go command could not load
abbrev pub first_incomplete : List PackageEntry → Option (List ℕ)
first_incomplete [] = None
first_incomplete (entry ∷ entries) = if entry.incomplete then Some entry.path else first_incomplete entries

-- why a text lists no packages
abbrev pub IsListFault : List ℕ → ListFault → Type 0
IsListFault text NotJson = SomeIs IsNoJson (pieces text)
IsListFault text WrongShape = (values : List Data) × AreValuesIn text values × SomeIs IsNoPackage values
IsListFault text (Incomplete path) =
    (entries : List PackageEntry) × AreListedIn text entries × (first_incomplete entries ≡ Some (string_bytes path))
IsListFault text Empty = AreListedIn text []
IsListFault text OutOfMemory = ⊤

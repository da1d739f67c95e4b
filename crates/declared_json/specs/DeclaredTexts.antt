-- Which texts are those of declared facts, and why a text is none.
use Rattle.std.specs.Prelude.{ℕ, ◌≡◌, ◌≢◌, ◌⊎◌, List, Some, None, ⊤}
use Rattle.serde_json.specs.Data.{Data}
use Rattle.serde_json.specs.Read.{read}
use Rattle.table_json.specs.TableTexts.{version_of}
use Rattle.declared_json.specs.declared.fault.DeclaredFault.{DeclaredFault}
use Rattle.declared_json.specs.declared.fault.DeclaredFault.TheVariants.{NotJson, WrongVersion, WrongShape, Reserved, OutOfMemory}
use Rattle.declared_json.specs.declared.reserved.ReservedPath.{ReservedPath}
use Rattle.declared_json.specs.DeclaredPackages.{PackageEntry, first_reserved}
use Rattle.declared_json.specs.DeclaredValues.{IsOutsideValue}

-- the text is that of the packages, none of which has a reserved path
pub record IsDeclaredText (text : List ℕ) (packages : List PackageEntry) : Type 0 where
  pub value : Data
  pub is_json : read text ≡ Some value
  pub are_packages : IsOutsideValue value packages
  pub none_reserved : first_reserved packages ≡ None

-- the version is another
abbrev pub HasWrongVersion : Data → Type 0
HasWrongVersion value = (version : ℕ) × (version_of value ≡ Some version) × (version ≢ 2)

-- the version is missing or unfit, or it is 2 and this is the value of no packages
abbrev pub HasWrongShape : Data → Type 0
HasWrongShape value =
    (version_of value ≡ None)
    ⊎ ((version_of value ≡ Some 2) × ((packages : List PackageEntry) → ¬ IsOutsideValue value packages))

-- this is the value of packages, of whose paths this is the first that is reserved
abbrev pub HasReserved : Data → ReservedPath → Type 0
HasReserved value path =
    (packages : List PackageEntry) × IsOutsideValue value packages × (first_reserved packages ≡ Some path)

-- why a text is not read
abbrev pub IsDeclaredFault : List ℕ → DeclaredFault → Type 0
IsDeclaredFault text NotJson = read text ≡ None
IsDeclaredFault text WrongVersion = (value : Data) × (read text ≡ Some value) × HasWrongVersion value
IsDeclaredFault text WrongShape = (value : Data) × (read text ≡ Some value) × HasWrongShape value
IsDeclaredFault text (Reserved path) = (value : Data) × (read text ≡ Some value) × HasReserved value path
IsDeclaredFault text OutOfMemory = ⊤

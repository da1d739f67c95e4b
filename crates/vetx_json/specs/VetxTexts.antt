-- Which texts keep a package, and why a text does not.
use Rattle.std.specs.Prelude.{ℕ, ◌≡◌, ◌≢◌, ◌⊎◌, List, Some, None, ⊤}
use Rattle.serde_json.specs.Data.{Data}
use Rattle.serde_json.specs.Read.{read}
use Rattle.serde_json.specs.Written.{compact_text}
use Rattle.table_json.specs.TableTexts.{version_of}
use Rattle.vetx_json.specs.declared.fault.VetxFault.{VetxFault}
use Rattle.vetx_json.specs.declared.fault.VetxFault.TheVariants.{NotJson, WrongVersion, WrongShape, OutOfMemory}
use Rattle.vetx_json.specs.KeptUnits.{VetxEntry, IsInOrder}
use Rattle.vetx_json.specs.VetxValues.{vetx_value, IsVetxValue}

pub record IsVetxText (text : List ℕ) (v : VetxEntry) : Type 0 where
  pub value : Data
  pub is_json : read text ≡ Some value
  pub is_vetx : IsVetxValue value v

-- the version is another
abbrev pub HasWrongVersion : Data → Type 0
HasWrongVersion value = (version : ℕ) × (version_of value ≡ Some version) × (version ≢ 1)

-- the version is missing or unfit, or it is 1 and this is the value of no package
abbrev pub HasWrongShape : Data → Type 0
HasWrongShape value =
    (version_of value ≡ None) ⊎ ((version_of value ≡ Some 1) × ((v : VetxEntry) → ¬ IsVetxValue value v))

-- why a text is not read
abbrev pub IsVetxFault : List ℕ → VetxFault → Type 0
IsVetxFault text NotJson = read text ≡ None
IsVetxFault text WrongVersion = (value : Data) × (read text ≡ Some value) × HasWrongVersion value
IsVetxFault text WrongShape = (value : Data) × (read text ≡ Some value) × HasWrongShape value
IsVetxFault text OutOfMemory = ⊤

-- the text of what is kept, as it stands; where that is in order, its text reads back as it
pub record IsWrittenText (v : VetxEntry) (text : List ℕ) : Type 0 where
  pub is_text : text ≡ compact_text (vetx_value v)
  pub reads_back : IsInOrder v → IsVetxText text v

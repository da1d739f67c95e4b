-- Which texts are those of a table, and why a text is none.
use Rattle.std.specs.Prelude.{ℕ, ◌≡◌, ◌≢◌, ◌⊎◌, List, Option, Some, None, option_and_then, ⊤, codes}
use Rattle.serde_json.specs.Data.{Data}
use Rattle.serde_json.specs.Find.{get, as_number, as_u64}
use Rattle.serde_json.specs.Read.{read}
use Rattle.table_json.specs.declared.fault.TableFault.{TableFault}
use Rattle.table_json.specs.declared.fault.TableFault.TheVariants.{NotJson, WrongVersion, WrongShape, OutOfMemory}
use Rattle.table_json.specs.Tables.{Entry}
use Rattle.table_json.specs.TableValues.{if_fits, IsTableValue}

pub record IsTableText (text : List ℕ) (table : List Entry) : Type 0 where
  pub value : Data
  pub is_json : read text ≡ Some value
  pub is_table : IsTableValue value table

-- The whole number that stands as the version. One with a sign, a point or an exponent, or above 4,294,967,295, is no
-- whole number.
abbrev pub version_of : Data → Option ℕ
version_of value =
    option_and_then if_fits (option_and_then as_u64 (option_and_then as_number (get (codes "version") value)))

-- the version is one that is read
abbrev pub HasKnownVersion : Data → Type 0
HasKnownVersion value = (version_of value ≡ Some 1) ⊎ (version_of value ≡ Some 2)

-- the version is missing or unfit, or it is one that is read and this is the value of no table
abbrev pub HasWrongShape : Data → Type 0
HasWrongShape value =
    (version_of value ≡ None) ⊎ (HasKnownVersion value × ((table : List Entry) → ¬ IsTableValue value table))

abbrev pub HasWrongVersion : Data → Type 0
HasWrongVersion value = (version : ℕ) × (version_of value ≡ Some version) × (version ≢ 1) × (version ≢ 2)

-- why a text is not read
abbrev pub IsTableFault : List ℕ → TableFault → Type 0
IsTableFault text NotJson = read text ≡ None
IsTableFault text WrongVersion = (value : Data) × (read text ≡ Some value) × HasWrongVersion value
IsTableFault text WrongShape = (value : Data) × (read text ≡ Some value) × HasWrongShape value
IsTableFault text OutOfMemory = ⊤

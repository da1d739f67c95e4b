-- Which bytes are the configuration of a unit, and why some are none.
use Rattle.std.specs.Prelude.{ℕ, ◌≡◌, ◌⊎◌, List, Some, None, ⊤}
use Rattle.std.specs.Str.{IsUtf8}
use Rattle.serde_json.specs.Data.{Data}
use Rattle.serde_json.specs.Read.{read}
use Rattle.unit_config.specs.declared.fault.UnitFault.{UnitFault}
use Rattle.unit_config.specs.declared.fault.UnitFault.TheVariants.{NotJson, WrongShape, OutOfMemory}
use Rattle.unit_config.specs.UnitValues.{UnitEntry, IsNoUnit, IsUnit}

-- the bytes are JSON of this value
pub record IsJsonOf (bytes : List ℕ) (value : Data) : Type 0 where
  pub is_utf8 : IsUtf8 bytes
  pub is_json : read bytes ≡ Some value

-- they are JSON of none
abbrev pub IsNoJson : List ℕ → Type 0
IsNoJson bytes = (IsUtf8 bytes → ⊥) ⊎ (read bytes ≡ None)

-- they tell of this unit
pub record IsUnitText (bytes : List ℕ) (u : UnitEntry) : Type 0 where
  pub value : Data
  pub is_json : IsJsonOf bytes value
  pub is_unit : IsUnit value u

-- why bytes tell of none
abbrev pub IsUnitFault : List ℕ → UnitFault → Type 0
IsUnitFault bytes NotJson = IsNoJson bytes
IsUnitFault bytes WrongShape = (value : Data) × IsJsonOf bytes value × IsNoUnit value
IsUnitFault bytes OutOfMemory = ⊤

-- The file of a unit, which the go command has judged as one package, and what it tells. Which bytes a file has, no
-- contract can say.
use Rattle.std.specs.Prelude.{◌≡◌, ⊤, ℕ, List, string_bytes}
use Rattle.folders.specs.Names.{IsNameIn, IsPrintable}
use Rattle.folders.specs.ReadFaults.{IsFaultIn}
use Rattle.folders.specs.ReadFiles.{bytes_read, name_read}
use Rattle.folders.specs.declared.fault.Fault.{Fault}
use Rattle.folders.specs.declared.fault.Fault.TheVariants.{BadPackage, CannotRead, UnitNotJson, UnitWrongShape, OutOfMemory}
pub use Rattle.test_packages.specs.TestPaths.{without_suffix}
use Rattle.unit_config.specs.UnitTexts.{IsUnitFault, IsUnitText}
use Rattle.unit_config.specs.UnitValues.{unit_of, UnitEntry}
use Rattle.unit_config.specs.declared.fault.UnitFault.TheVariants as unit_fault
use Rattle.unit_reading.specs.declared.unit_file.UnitRead.{UnitRead}

-- The file of a unit

-- this file was read, it tells of the unit, and a line can hold its path
pub record IsUnitRead (name : List ℕ) (read : UnitRead) : Type 0 where
  pub is_named : name_read read.file ≡ name
  pub is_told : IsUnitText (bytes_read read.file) (unit_of read.unit)
  pub is_printable : IsPrintable (without_suffix (string_bytes read.unit.path))

-- the bytes tell of a unit whose path no line could hold
abbrev pub HaveBadPath : List ℕ → Type 0
HaveBadPath bytes = (unit : UnitEntry) × IsUnitText bytes unit × (IsPrintable (without_suffix unit.path) → ⊥)

-- why these bytes tell of no unit that is judged
abbrev pub IsUnitBytesFault : List ℕ → Fault → Type 0
IsUnitBytesFault bytes UnitNotJson = IsUnitFault bytes unit_fault.NotJson
IsUnitBytesFault bytes UnitWrongShape = IsUnitFault bytes unit_fault.WrongShape
IsUnitBytesFault bytes (BadPackage text) = HaveBadPath bytes
IsUnitBytesFault bytes OutOfMemory = ⊤
IsUnitBytesFault bytes _ = ⊥

-- the fault of the file of a unit, which has this name
abbrev pub IsUnitFileFault : List ℕ → Fault → Type 0
IsUnitFileFault name (CannotRead text) = IsNameIn name (string_bytes text)
IsUnitFileFault name OutOfMemory = ⊤
IsUnitFileFault name fault = IsFaultIn name IsUnitBytesFault fault

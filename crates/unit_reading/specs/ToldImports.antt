-- What is kept of the packages that a unit imports, as it is read of the files that the unit names, and which of it
-- counts. Which bytes a file has, no contract can say.
use Rattle.std.specs.Prelude.{◌≡◌, ◌≢◌, ◌⊎◌, ⊤, ℕ, Bool, List, Option, Some, None, if◌then◌else◌, All, map, option_and_then, string_bytes, ◌==◌, ◌&&◌, not}
use Rattle.std.specs.Str.{IsUtf8, bytes_eq}
use Rattle.folders.specs.Names.{IsNameIn}
use Rattle.folders.specs.ReadFaults.{IsFaultIn, NamesOneOf}
use Rattle.folders.specs.ReadFiles.{bytes_read, name_read}
use Rattle.folders.specs.declared.fault.Fault.{Fault}
use Rattle.folders.specs.declared.fault.Fault.TheVariants.{CannotRead, VetxNotJson, VetxWrongShape, VetxWrongVersion, VetxOfAnotherPackage, VetxOfAnotherEdition, VetxOfOtherFacts, OutOfMemory}
use Rattle.unit_config.specs.KeyedTexts.{AreKeys}
use Rattle.unit_config.specs.UnitValues.{Texts, UnitEntry}
use Rattle.vetx_json.specs.KeptUnits.{vetx_of, IsInOrder, VetxEntry}
use Rattle.vetx_json.specs.VetxTexts.{IsVetxFault, IsVetxText}
use Rattle.vetx_json.specs.declared.fault.VetxFault.TheVariants as vetx_fault
use Rattle.unit_reading.specs.declared.vetx_input.ToldImport.{ToldImport}
use Rattle.unit_reading.specs.UnitsTold.{without_suffix}

-- What is kept of imported packages

-- of the package that an import means, this file tells
abbrev pub files_told : UnitEntry → Texts
files_told unit import = option_and_then unit.told (unit.imports import)

-- this file tells of the package that some import means
abbrev pub IsToldFile : UnitEntry → List ℕ → Type 0
IsToldFile unit name = (import : List ℕ) × (files_told unit import ≡ Some name)

-- why the file of this name and these bytes keeps nothing; what is not UTF-8 is no JSON
abbrev pub IsTextFault : List ℕ → List ℕ → Fault → Type 0
IsTextFault name bytes (VetxNotJson text) =
    IsNameIn name (string_bytes text) × ((IsUtf8 bytes → ⊥) ⊎ IsVetxFault bytes vetx_fault.NotJson)
IsTextFault name bytes (VetxWrongShape text) =
    IsNameIn name (string_bytes text) × IsVetxFault bytes vetx_fault.WrongShape
IsTextFault name bytes (VetxWrongVersion text) =
    IsNameIn name (string_bytes text) × IsVetxFault bytes vetx_fault.WrongVersion
IsTextFault name bytes OutOfMemory = ⊤
IsTextFault name bytes _ = ⊥

-- what is kept of a package is wanted of that path, judged by that edition, beside facts with that digest
module _ (path : List ℕ) (edition : ℕ) (digest : List ℕ) where
  -- these bytes keep it
  pub record IsKeptIn (bytes : List ℕ) (kept : VetxEntry) : Type 0 where
    pub is_text : IsVetxText bytes kept
    pub in_order : IsInOrder kept
    pub is_path : kept.path ≡ path
    pub is_edition : kept.edition ≡ edition
    pub is_digest : kept.facts ≡ digest

  -- they keep something else; it is looked for the path first, and for the digest last
  abbrev pub IsOfAnotherPackage : List ℕ → Type 0
  IsOfAnotherPackage bytes = (kept : VetxEntry) × IsVetxText bytes kept × (kept.path ≢ path)

  abbrev pub IsOfAnotherEdition : List ℕ → Type 0
  IsOfAnotherEdition bytes =
      (kept : VetxEntry) × IsVetxText bytes kept × (kept.path ≡ path) × (kept.edition ≢ edition)

  abbrev pub IsOfOtherFacts : List ℕ → Type 0
  IsOfOtherFacts bytes =
      (kept : VetxEntry) × IsVetxText bytes kept × (kept.path ≡ path) × (kept.edition ≡ edition) × (kept.facts ≢ digest)

  -- why the file of this name and these bytes does not keep it
  abbrev pub IsVetxBytesFault : List ℕ → List ℕ → Fault → Type 0
  IsVetxBytesFault name bytes (VetxOfAnotherPackage text) =
      IsNameIn name (string_bytes text) × IsOfAnotherPackage bytes
  IsVetxBytesFault name bytes (VetxOfAnotherEdition text) =
      IsNameIn name (string_bytes text) × IsOfAnotherEdition bytes
  IsVetxBytesFault name bytes (VetxOfOtherFacts text) = IsNameIn name (string_bytes text) × IsOfOtherFacts bytes
  IsVetxBytesFault name bytes fault = IsTextFault name bytes fault

-- a unit that is judged by that edition, beside facts with that digest
module _ (edition : ℕ) (digest : List ℕ) (unit : UnitEntry) where
  -- the file that tells of the package which the import means was read, and this is kept in it
  pub record IsTold (told : ToldImport) : Type 0 where
    pub path : List ℕ
    pub is_meant : unit.imports told.import.now ≡ Some path
    pub is_file : unit.told path ≡ Some (name_read told.file)
    pub is_kept : IsKeptIn (without_suffix path) edition digest (bytes_read told.file) (vetx_of told.kept)

  -- what was read of an import: the file that tells of it, where one does
  abbrev pub IsReadOf : List ℕ → Option ToldImport → Type 0
  IsReadOf import None = files_told unit import ≡ None
  IsReadOf import (Some told) = (told.import.now ≡ import) × IsTold told

  -- so it is of each import of whose package a file tells, byte by byte in order, each once
  pub record AreTold (told : List ToldImport) : Type 0 where
    pub each : All IsTold told
    pub are_imports : AreKeys (files_told unit) (map (λ t. t.import.now) told)

  -- the file that tells of the package which an import means was read, and its bytes have this fault
  pub record HaveVetxFault (fault : Fault) : Type 0 where
    pub import : List ℕ
    pub path : List ℕ
    pub is_meant : unit.imports import ≡ Some path
    pub name : List ℕ
    pub is_file : unit.told path ≡ Some name
    pub is_fault : IsFaultIn name (IsVetxBytesFault (without_suffix path) edition digest name) fault

  -- the fault of what is read of imported packages
  abbrev pub IsToldFault : Fault → Type 0
  IsToldFault (CannotRead text) = NamesOneOf (IsToldFile unit) (string_bytes text)
  IsToldFault OutOfMemory = ⊤
  IsToldFault fault = HaveVetxFault fault

-- Which imports count

-- By the first edition a package that has a fault as a whole counts only inside its own module. Of another import of it
-- it is as if nothing were known. (By the second edition such a package is passed over where its importers are judged,
-- in every module.)
abbrev pub counts_in : List ℕ → ToldImport → Bool
counts_in module_path told =
    not ((told.kept.has_whole_fault && told.kept.edition == 1)
    && not (bytes_eq (string_bytes told.kept.module_path) module_path))

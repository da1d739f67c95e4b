-- Faults of the file of a unit, and of what is kept of imported packages.
use Rattle.std.proofs.Common.{◌≡◌, ◌∙◌, ℕ, List, Some, ap, option_and_then, string_bytes, subst, sym}
use Rattle.folders.specs.Names.{IsNameIn}
use Rattle.folders.specs.ReadFaults.{IsReadFaultOf}
use Rattle.folders.specs.ReadFiles.{bytes_read, name_read}
use Rattle.folders.specs.declared.fault.Fault.{Fault}
use Rattle.folders.specs.declared.fault.Fault.TheVariants.{CannotRead, VetxOfAnotherPackage, VetxOfAnotherEdition, VetxOfOtherFacts, OutOfMemory}
use Rattle.folders.specs.declared.whole_files.ReadFile.{ReadFile}
use Rattle.unit_config.specs.UnitValues.{UnitEntry}
use Rattle.unit_reading.specs.ToldImports.{files_told, IsTextFault, IsToldFault, IsVetxBytesFault}
use Rattle.unit_reading.specs.UnitsTold.{without_suffix, IsUnitBytesFault, IsUnitFileFault}

pub of_unit_read : (name : List ℕ) (fault : Fault) → IsReadFaultOf (λ told. told ≡ name) fault → IsUnitFileFault name fault
of_unit_read name (CannotRead text) is = subst (λ n. IsNameIn n (string_bytes text)) is.is_one is.is_told
of_unit_read name OutOfMemory is = tt
of_unit_read name _ is = absurd is

pub of_unit_bytes : (name bytes : List ℕ) (file : ReadFile) → name_read file ≡ name → bytes ≡ bytes_read file → (fault : Fault)
    → IsUnitBytesFault bytes fault
    → IsUnitFileFault name fault
of_unit_bytes name bytes file named of (CannotRead text) is = absurd is
of_unit_bytes name bytes file named of OutOfMemory is = tt
of_unit_bytes name bytes file named of fault is = record {
  file = file;
  is_named = named;
  is_fault = subst (λ b. IsUnitBytesFault b fault) of is;
}

-- a text in which nothing is kept
pub of_text : (path : List ℕ) (edition : ℕ) (digest name bytes : List ℕ) (fault : Fault) → IsTextFault name bytes fault
    → IsVetxBytesFault path edition digest name bytes fault
of_text path edition digest name bytes (VetxOfAnotherPackage text) is = absurd is
of_text path edition digest name bytes (VetxOfAnotherEdition text) is = absurd is
of_text path edition digest name bytes (VetxOfOtherFacts text) is = absurd is
of_text path edition digest name bytes _ is = is

module _ (edition : ℕ) (digest : List ℕ) (unit : UnitEntry) where
  -- the file that tells of the package which the import means
  meant_file : (import path name : List ℕ) → unit.imports import ≡ Some path → unit.told path ≡ Some name
      → files_told unit import ≡ Some name
  meant_file import path name meant file = ap (option_and_then unit.told) meant ∙ file

  pub of_reading : (import path name : List ℕ) → Some path ≡ unit.imports import → Some name ≡ unit.told path → (fault : Fault)
      → IsReadFaultOf (λ told. told ≡ name) fault
      → IsToldFault edition digest unit fault
  of_reading import path name meant file (CannotRead text) is = record {
    name = name;
    is_one = (import, meant_file import path name (sym meant) (sym file));
    is_told = subst (λ n. IsNameIn n (string_bytes text)) is.is_one is.is_told;
  }
  of_reading import path name meant file OutOfMemory is = tt
  of_reading import path name meant file _ is = absurd is

  of_vetx : (import path name : List ℕ) (read : ReadFile) → unit.imports import ≡ Some path → unit.told path ≡ Some name
      → name_read read ≡ name
      → (fault : Fault)
      → IsVetxBytesFault (without_suffix path) edition digest name (bytes_read read) fault
      → IsToldFault edition digest unit fault
  of_vetx import path name read meant file named (CannotRead text) is = absurd is
  of_vetx import path name read meant file named OutOfMemory is = tt
  of_vetx import path name read meant file named _ is = record {
    import = import;
    path = path;
    is_meant = meant;
    name = name;
    is_file = file;
    is_fault = record { file = read; is_named = named; is_fault = is };
  }

  pub of_file : (import path wanted name : List ℕ) (read : ReadFile) → Some path ≡ unit.imports import
      → wanted ≡ without_suffix path
      → Some name ≡ unit.told path
      → name_read read ≡ name
      → (fault : Fault)
      → IsVetxBytesFault wanted edition digest (name_read read) (bytes_read read) fault
      → IsToldFault edition digest unit fault
  of_file import path wanted name read meant is_wanted file is_named fault is =
      of_vetx import path name read (sym meant) (sym file) is_named fault
      (subst (λ n. IsVetxBytesFault (without_suffix path) edition digest n (bytes_read read) fault) is_named
      (subst (λ w. IsVetxBytesFault w edition digest (name_read read) (bytes_read read) fault) is_wanted is))

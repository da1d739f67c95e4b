-- Faults of what is read for a unit.
use Rattle.std.proofs.Common.{◌≡◌, inl, inr, ℕ, List, Option, Contains, String, Global, string_bytes, subst}
use Rattle.command_line.specs.Words.{edition_number, option_texts}
use Rattle.command_line.specs.declared.vet_told.UnitFlags.{UnitFlags}
use Rattle.declared_json.specs.declared.outside.DeclaredPackages.{DeclaredPackages}
use Rattle.folders.specs.GoModules.{IsModuleFileOf}
use Rattle.folders.specs.Names.{IsNameIn}
use Rattle.folders.specs.ReadFaults.{IsReadFaultOf}
use Rattle.folders.specs.UnitFiles.{picked_files}
use Rattle.folders.specs.declared.fault.Fault.{Fault}
use Rattle.folders.specs.declared.fault.Fault.TheVariants.{BaselineNotJson, BaselineWrongShape, CannotRead, CannotWriteFile, FactsNotJson, FactsWrongShape, FactsWrongVersion, FactsReserved, OutOfMemory}
use Rattle.folders.specs.declared.whole_files.ReadFile.{ReadFile}
use Rattle.unit_config.specs.UnitValues.{UnitEntry}
use Rattle.unit_reading.specs.ToldImports.{IsToldFault}
use Rattle.inputs.proofs.FaultsRead.{only_one}
use Rattle.inputs.specs.BaselinesRead.{IsReadBaselineFault}
use Rattle.inputs.specs.DeclaredFacts.{AreDeclaredBy, IsReadFactsFault}
use Rattle.vet_units.specs.UnitRuns.{IsKeepingFault, IsOwnFileFault}
use Rattle.vet_units.specs.UnitsRead.{digest_for, edition_of_unit, IsFlagFileFault, IsInputFaultOf}

-- of the program's own file
pub of_own_file : (names : List ℕ → Type 0) (fault : Fault) → IsReadFaultOf names fault → IsOwnFileFault fault
of_own_file names (CannotRead text) is = tt
of_own_file names OutOfMemory is = tt
of_own_file names _ is = absurd is

-- of the file that is kept
pub of_kept_file : (unit : UnitEntry) (name : List ℕ) (text : String Global) (fault : Fault) → name ≡ unit.output
    → IsNameIn name (string_bytes text)
    → CannotWriteFile text ≡ fault
    → IsKeepingFault unit fault
of_kept_file unit name text fault same told is =
    subst (IsKeepingFault unit) is (subst (λ n. IsNameIn n (string_bytes text)) same told)

module _ (flags : UnitFlags) (unit : UnitEntry) where
  pub of_unit_files : (fault : Fault)
      → IsReadFaultOf (Contains (picked_files flags.with_tests unit.folder unit.files)) fault
      → IsInputFaultOf flags unit fault
  of_unit_files (CannotRead text) is =
      record { name = is.name; is_one = inr (inr (inr (inr is.is_one))); is_told = is.is_told }
  of_unit_files OutOfMemory is = tt
  of_unit_files _ is = absurd is

  pub of_unit_module : (fault : Fault) → IsReadFaultOf (IsModuleFileOf unit.folder) fault → IsInputFaultOf flags unit fault
  of_unit_module (CannotRead text) is =
      record { name = is.name; is_one = inr (inr (inr (inl is.is_one))); is_told = is.is_told }
  of_unit_module OutOfMemory is = tt
  of_unit_module _ is = absurd is

  of_unit_facts : (fault : Fault) → IsReadFactsFault (option_texts flags.facts) fault
      → IsInputFaultOf flags unit fault
  of_unit_facts (CannotRead text) is = record {
    name = is.name;
    is_one = inl (only_one (option_texts flags.facts) is.name is.is_only);
    is_told = is.so;
  }
  of_unit_facts OutOfMemory is = tt
  of_unit_facts FactsNotJson is = is
  of_unit_facts FactsWrongShape is = is
  of_unit_facts FactsWrongVersion is = is
  of_unit_facts (FactsReserved text) is = is
  of_unit_facts _ is = absurd is.so.is_fault

  of_unit_baseline : (fault : Fault) → IsReadBaselineFault (option_texts flags.baseline) fault
      → IsInputFaultOf flags unit fault
  of_unit_baseline (CannotRead text) is = record {
    name = is.name;
    is_one = inr (inl (only_one (option_texts flags.baseline) is.name is.is_only));
    is_told = is.so;
  }
  of_unit_baseline OutOfMemory is = tt
  of_unit_baseline BaselineNotJson is = is
  of_unit_baseline BaselineWrongShape is = is
  of_unit_baseline _ is = absurd is.so.is_fault

  pub of_flag_files : (fault : Fault) → IsFlagFileFault flags fault → IsInputFaultOf flags unit fault
  of_flag_files fault (inl is) = of_unit_facts fault is
  of_flag_files fault (inr is) = of_unit_baseline fault is

  pub of_unit_told : (facts : Option ReadFile) (outside : DeclaredPackages)
      → AreDeclaredBy (option_texts flags.facts) facts outside
      → (fault : Fault)
      → IsToldFault (edition_number (edition_of_unit flags)) (digest_for flags facts) unit fault
      → IsInputFaultOf flags unit fault
  of_unit_told facts outside declared (CannotRead text) is =
      record { name = is.name; is_one = inr (inr (inl is.is_one)); is_told = is.is_told }
  of_unit_told facts outside declared OutOfMemory is = tt
  of_unit_told facts outside declared FactsNotJson is = absurd is.is_fault.is_fault
  of_unit_told facts outside declared FactsWrongShape is = absurd is.is_fault.is_fault
  of_unit_told facts outside declared FactsWrongVersion is = absurd is.is_fault.is_fault
  of_unit_told facts outside declared (FactsReserved text) is = absurd is.is_fault.is_fault
  of_unit_told facts outside declared BaselineNotJson is = absurd is.is_fault.is_fault
  of_unit_told facts outside declared BaselineWrongShape is = absurd is.is_fault.is_fault
  of_unit_told facts outside declared _ is = (facts, outside, declared, is)

  pub of_told_by : (facts : Option ReadFile) (outside : DeclaredPackages)
      → AreDeclaredBy (option_texts flags.facts) facts outside
      → (number : ℕ) (digest : List ℕ)
      → number ≡ edition_number (edition_of_unit flags)
      → digest ≡ digest_for flags facts
      → (fault : Fault)
      → IsToldFault number digest unit fault
      → IsInputFaultOf flags unit fault
  of_told_by facts outside declared number digest is_number is_digest fault is =
      of_unit_told facts outside declared fault
      (subst (λ d. IsToldFault (edition_number (edition_of_unit flags)) d unit fault) is_digest
      (subst (λ n. IsToldFault n digest unit fault) is_number is))

-- What is read for a unit, once its file was: the declared facts, the findings of an earlier run, what is kept of the
-- packages that it imports, its module, and its Go files. Which bytes a file has, no contract can say.
use Rattle.std.specs.Prelude.{◌≡◌, ◌⊎◌, ℕ, ⊤, Bool, false, not, List, [], ◌∷◌, Contains, Option, map, string_bytes}
use Rattle.std.specs.Option.{option_map_or}
use Rattle.command_line.specs.Words.{edition_number, option_texts}
use Rattle.command_line.specs.declared.vet_told.UnitFlags.{UnitFlags}
use Rattle.declared_json.specs.DeclaredPackages.{packages_of}
use Rattle.declared_json.specs.declared.outside.DeclaredPackages.{DeclaredPackages}
use Rattle.folders.specs.GoModules.{IsModuleFileOf, IsModulePath}
use Rattle.folders.specs.ListedFiles.{AreFilesOf}
use Rattle.folders.specs.ReadFaults.{NamesOneOf}
use Rattle.folders.specs.UnitFiles.{picked_files}
use Rattle.folders.specs.declared.fault.Fault.{Fault}
use Rattle.folders.specs.declared.fault.Fault.TheVariants.{BaselineNotJson, BaselineWrongShape, CannotRead, FactsNotJson, FactsWrongShape, FactsWrongVersion, FactsReserved, OutOfMemory}
use Rattle.folders.specs.declared.whole_files.ReadFile.{ReadFile}
use Rattle.load.specs.MeantPaths.{MeantPath, meant_of}
use Rattle.load.specs.declared.packages.GivenPackage.{GivenPackage}
use Rattle.tree.specs.declared.edition.Edition.{Edition}
use Rattle.tree.specs.declared.edition.Edition.TheVariants.{First, Second}
use Rattle.unit_config.specs.KeyedTexts.{AreKeys}
use Rattle.unit_config.specs.UnitValues.{UnitEntry}
use Rattle.unit_reading.specs.ToldImports.{AreTold, HaveVetxFault, IsToldFile}
use Rattle.unit_reading.specs.UnitsTold.{without_suffix}
use Rattle.inputs.specs.BaselinesRead.{AreLocatedBy, HaveBaselineFault, IsReadBaselineFault}
use Rattle.inputs.specs.DeclaredFacts.{AreDeclaredBy, HaveFactsFault, IsReadFactsFault}
use Rattle.vet_units.specs.Digests.{facts_digest}
use Rattle.inputs.specs.Editions.{edition_or}
use Rattle.inputs.specs.KnownPackages.{known_beside}
use Rattle.vet_units.specs.declared.flag_files.FlagFiles.{FlagFiles}
use Rattle.vet_units.specs.declared.unit_input.UnitInput.{UnitInput}

abbrev pub edition_of_unit : UnitFlags → Edition
edition_of_unit flags = edition_or Second flags.edition

-- by the second edition something is known of Go's library, unless the flags leave that out
abbrev pub knows_library : Edition → (without_library : Bool) → Bool
knows_library First without_library = false
knows_library Second without_library = not without_library

-- the digest of the facts beside which the unit is judged
abbrev pub digest_for : UnitFlags → Option ReadFile → List ℕ
digest_for flags file = facts_digest (knows_library (edition_of_unit flags) flags.without_library) file

-- What an import path means to its files: the package that the go command says, or else itself.
abbrev pub means : UnitEntry → List ℕ → List ℕ
means unit path = option_map_or without_suffix (unit.imports path) path

abbrev pub meant_path_of : UnitEntry → List ℕ → MeantPath
meant_path_of unit path = record { written = path; meant = means unit path }

-- so it is said of each path of which the go command says something
abbrev pub AreMeantBy : UnitEntry → List MeantPath → Type 0
AreMeantBy unit imports = (paths : List (List ℕ))
    × AreKeys unit.imports paths
    × (imports ≡ map (meant_path_of unit) paths)

-- the package that is judged: its path, the edition, its files, those of tests where that is asked for, and what the
-- paths of their imports mean
pub record IsPackageOf (flags : UnitFlags) (unit : UnitEntry) (given : GivenPackage) : Type 0 where
  pub is_path : string_bytes given.path ≡ without_suffix unit.path
  pub is_edition : given.edition ≡ edition_of_unit flags
  pub are_files : AreFilesOf (picked_files flags.with_tests unit.folder unit.files) given.sources.items
  pub are_imports : AreMeantBy unit (map meant_of given.imports.items)

-- The files that the flags name, which are the same for all units of one run of the go command: they were read, and
-- this is declared, and these are the findings of an earlier run.
pub record AreFilesFor (flags : UnitFlags) (files : FlagFiles) : Type 0 where
  pub are_declared : AreDeclaredBy (option_texts flags.facts) files.facts files.declared
  pub are_known : AreLocatedBy (option_texts flags.baseline) files.baseline

-- one of these files has this fault
abbrev pub IsFlagFileFault : UnitFlags → Fault → Type 0
IsFlagFileFault flags fault =
    IsReadFactsFault (option_texts flags.facts) fault ⊎ IsReadBaselineFault (option_texts flags.baseline) fault

-- what is known of packages beside the unit's own: what is declared, by the second edition of others alone, and of Go's
-- library
pub record AreKnownFor (flags : UnitFlags) (unit : UnitEntry) (input : UnitInput) : Type 0 where
  pub declared : DeclaredPackages
  pub are_declared : AreDeclaredBy (option_texts flags.facts) input.facts declared
  pub are_known : packages_of input.outside
      ≡ known_beside (edition_of_unit flags) flags.without_library (without_suffix unit.path ∷ [])
      (packages_of declared)

-- what is read for this unit, by these flags
pub record IsInputOf (flags : UnitFlags) (unit : UnitEntry) (input : UnitInput) : Type 0 where
  pub are_outside : AreKnownFor flags unit input
  pub is_digest : string_bytes input.digest ≡ digest_for flags input.facts
  pub are_known : AreLocatedBy (option_texts flags.baseline) input.baseline
  pub are_told : AreTold (edition_number (edition_of_unit flags)) (digest_for flags input.facts) unit input.told.items
  pub is_module : IsModulePath unit.folder (string_bytes input.module_path)
  pub is_package : IsPackageOf flags unit input.given

-- the declared facts were read, and it is the fault of what is read of imported packages
abbrev pub IsVetxFaultOf : UnitFlags → UnitEntry → Fault → Type 0
IsVetxFaultOf flags unit fault = (facts : Option ReadFile)
    × (outside : DeclaredPackages)
    × AreDeclaredBy (option_texts flags.facts) facts outside
    × HaveVetxFault (edition_number (edition_of_unit flags)) (digest_for flags facts) unit fault

-- what is read for it, as lines name it
abbrev pub IsToReadFor : UnitFlags → UnitEntry → List ℕ → Type 0
IsToReadFor flags unit name =
    Contains (option_texts flags.facts) name
    ⊎ Contains (option_texts flags.baseline) name
    ⊎ IsToldFile unit name
    ⊎ IsModuleFileOf unit.folder name
    ⊎ Contains (picked_files flags.with_tests unit.folder unit.files) name

-- the fault of what is read for this unit, by these flags
abbrev pub IsInputFaultOf : UnitFlags → UnitEntry → Fault → Type 0
IsInputFaultOf flags unit (CannotRead text) = NamesOneOf (IsToReadFor flags unit) (string_bytes text)
IsInputFaultOf flags unit FactsNotJson = HaveFactsFault (option_texts flags.facts) FactsNotJson
IsInputFaultOf flags unit FactsWrongShape = HaveFactsFault (option_texts flags.facts) FactsWrongShape
IsInputFaultOf flags unit FactsWrongVersion = HaveFactsFault (option_texts flags.facts) FactsWrongVersion
IsInputFaultOf flags unit (FactsReserved text) = HaveFactsFault (option_texts flags.facts) (FactsReserved text)
IsInputFaultOf flags unit BaselineNotJson = HaveBaselineFault (option_texts flags.baseline) BaselineNotJson
IsInputFaultOf flags unit BaselineWrongShape = HaveBaselineFault (option_texts flags.baseline) BaselineWrongShape
IsInputFaultOf flags unit OutOfMemory = ⊤
IsInputFaultOf flags unit fault = IsVetxFaultOf flags unit fault

-- What is known of packages that are not given. By the first edition it is what is declared, and of a given package
-- nothing may be. By the second what is declared of given packages is passed over, and something is known of Go's
-- library, unless words leave that out.
use Rattle.std.specs.Prelude.{ℕ, ◌≡◌, Bool, true, false, List, Option, map}
use Rattle.command_line.specs.Words.{option_texts}
use Rattle.command_line.specs.declared.words.Sources.{Sources}
use Rattle.declared_json.specs.DeclaredPackages.{PackageEntry, packages_of}
use Rattle.declared_json.specs.declared.outside.DeclaredPackages.{DeclaredPackages}
use Rattle.folders.specs.declared.whole_files.ReadFile.{ReadFile}
use Rattle.library_facts.specs.Beside.{but_given, with_library}
use Rattle.load.specs.LoadedBeside.{given_path}
use Rattle.load.specs.declared.packages.GivenPackage.{GivenPackage}
use Rattle.tree.specs.declared.edition.Edition.{Edition}
use Rattle.tree.specs.declared.edition.Edition.TheVariants.{First, Second}
use Rattle.inputs.specs.DeclaredFacts.{AreDeclaredBy}
use Rattle.inputs.specs.Editions.{edition_of_run}

-- what is declared, and what is known of Go's library beside it, unless that is left out
abbrev pub all_known : (without_library : Bool) → List PackageEntry → List PackageEntry
all_known true declared = declared
all_known false declared = with_library declared

-- the same beside packages of these paths
abbrev pub known_beside : Edition → (without_library : Bool) → List (List ℕ) → List PackageEntry → List PackageEntry
known_beside First without_library paths declared = declared
known_beside Second without_library paths declared = but_given paths (all_known without_library declared)

-- this is known beside the given packages, by what was read for these sources
pub record AreKnownBeside
    (sources : Sources) (file : Option ReadFile) (given : List GivenPackage) (outside : DeclaredPackages)
    : Type 0 where
  pub declared : DeclaredPackages
  pub are_declared : AreDeclaredBy (option_texts sources.facts) file declared
  pub are_known : packages_of outside
      ≡ known_beside (edition_of_run sources) sources.without_library (map given_path given) (packages_of declared)

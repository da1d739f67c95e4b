-- Packages that are loaded beside what is declared of others: nothing is declared of a package that is given.
use Rattle.std.specs.Prelude.{ℕ, ◌+◌, ◌≡◌, ⊤, if◌then◌else◌, List, [], ◌∷◌, map, Option, Some, None, string_bytes}
use Rattle.std.specs.List.{list_any}
use Rattle.std.specs.Str.{bytes_eq}
use Rattle.declared_json.specs.DeclaredPackages.{PackageEntry, packages_of}
use Rattle.whole_packages.specs.declared.loaded_package.LoadedPackage.{LoadedPackage as KeptPackage}
use Rattle.load.specs.GivenPackages.{AreLoadable, IsLoad, IsLoadFault}
use Rattle.load.specs.declared.loaded.Loaded.{Loaded}
use Rattle.load.specs.declared.packages.GivenPackage.{GivenPackage}
use Rattle.load.specs.declared.packages.LoadFault.{LoadFault}
use Rattle.load.specs.declared.packages.LoadFault.TheVariants.{TooMany, TwoPackages, NamesGiven, OutOfMemory}

abbrev pub given_path : GivenPackage → List ℕ
given_path g = string_bytes g.path

-- the first path of which something is declared that is one of these
abbrev pub first_given : List (List ℕ) → List PackageEntry → Option (List ℕ)
first_given paths [] = None
first_given paths (p ∷ outside) = if list_any (bytes_eq p.path) paths then Some p.path else first_given paths outside

-- The packages can be loaded, so there are not too many of them or of their files; they are loaded, that is declared,
-- and it is declared of none of them.
pub record IsLoadBeside (given : List GivenPackage) (outside : List PackageEntry) (loaded : Loaded) : Type 0 where
  pub can_be_loaded : AreLoadable given
  pub load : IsLoad given loaded.packages.items
  pub is_outside : packages_of loaded.outside ≡ outside
  pub none_is_given : first_given (map given_path given) outside ≡ None

-- the packages can be loaded, and this is the first path of which something is declared that is the path of one of them
pub record NamesGivenPath (given : List GivenPackage) (outside : List PackageEntry) (path : List ℕ) : Type 0 where
  pub can_be_loaded : AreLoadable given
  pub is_first : first_given (map given_path given) outside ≡ Some path

-- why packages are not loaded beside what is declared
abbrev pub IsLoadFaultBeside : List GivenPackage → List PackageEntry → LoadFault → Type 0
IsLoadFaultBeside given outside TooMany = IsLoadFault given TooMany
IsLoadFaultBeside given outside (TwoPackages path) = IsLoadFault given (TwoPackages path)
IsLoadFaultBeside given outside (NamesGiven path) = NamesGivenPath given outside (string_bytes path)
IsLoadFaultBeside given outside OutOfMemory = ⊤

-- Of loaded packages

abbrev pub kept_path : KeptPackage → List ℕ
kept_path k = string_bytes k.path

-- the fault tells this path
abbrev pub TellsGivenPath : Option (List ℕ) → LoadFault → Type 0
TellsGivenPath found TooMany = ⊥
TellsGivenPath found (TwoPackages path) = ⊥
TellsGivenPath found (NamesGiven path) = found ≡ Some (string_bytes path)
TellsGivenPath found OutOfMemory = ⊥

-- What serves the proofs

-- the place of the first of these, counted from that number, whose path is one of those
abbrev pub first_place : ℕ → List (List ℕ) → List PackageEntry → Option ℕ
first_place n paths [] = None
first_place n paths (p ∷ outside) =
    if list_any (bytes_eq p.path) paths then Some n else first_place (n + 1) paths outside

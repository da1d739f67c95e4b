-- Given packages that count as not given for those that import them, since they have faults as a whole, and that one of
-- the given packages imports. By the first edition none is.
use Rattle.std.specs.Prelude.{ℕ, ◌≡◌, ◌&&◌, Bool, not, List, String, filter, map, string_bytes}
use Rattle.std.specs.List.{list_any}
use Rattle.std.specs.Str.{bytes_eq}
use Rattle.std.specs.declared.alloc.Global.{Global}
use Rattle.declared_json.specs.DeclaredPackages.{PackageEntry}
use Rattle.imports.specs.Ranks.{Package}
use Rattle.load.specs.LoadedBeside.{IsLoadBeside}
use Rattle.load.specs.declared.loaded.Loaded.{Loaded}
use Rattle.load.specs.declared.packages.GivenPackage.{GivenPackage}
use Rattle.meaning_reports.specs.Loaded.{LoadedPackage, counts_as_given, is_imported}
use Rattle.whole_packages.specs.CountedViews.{kept_counts}
use Rattle.whole_packages.specs.LoadedViews.{TellPackages}
use Rattle.whole_packages.specs.declared.loaded_package.LoadedPackage.{LoadedPackage as KeptPackage}

abbrev pub imports_path : List LoadedPackage → List ℕ → Bool
imports_path ps path = list_any (λ p. is_imported p path) ps

-- their paths, in the order of the packages
abbrev pub not_given : List LoadedPackage → List (List ℕ)
not_given ps = map (λ p. p.path) (filter (λ p. not (counts_as_given p) && imports_path ps p.path) ps)

-- the packages are loaded, and these are the paths
pub record AreNotGiven (outside : List PackageEntry) (given : List GivenPackage) (paths : List (String Global))
    : Type 0 where
  pub loaded : Loaded
  pub load : IsLoadBeside given outside loaded
  pub are_paths : map string_bytes paths ≡ not_given load.load.meant

-- What serves the proofs: the same of packages in memory

-- the path is one of these, or of those of one of the lists
abbrev pub names_path : List (List ℕ) → List ℕ → Bool
names_path paths path = list_any (λ q. bytes_eq q path) paths

abbrev pub some_names : List Package → List ℕ → Bool
some_names lists path = list_any (λ l. names_path l.imports path) lists

abbrev pub kept_not_given : (List ℕ → Bool) → List KeptPackage → List (List ℕ)
kept_not_given imported kept =
    map (λ k. string_bytes k.path) (filter (λ k. not (kept_counts k) && imported (string_bytes k.path)) kept)

abbrev pub TellNotGiven : List KeptPackage → List (String Global) → Type 0
TellNotGiven kept paths = (ps : List LoadedPackage) → TellPackages ps kept → map string_bytes paths ≡ not_given ps

-- Packages as they are given, and what is loaded of them: each with its files as they are read, in the order of their
-- names, and the packages in the order of their paths, no two of one path.
use Rattle.std.specs.Prelude.{◌≡◌, Bool, false, true, ◌||◌, List, [], ◌∷◌, ◌++◌, ⊤, map, length, nat_lt, if◌then◌else◌, Option, Some, None, String, Vec, string_bytes, string_cmp, string_eq, IsPermutation, IsSorted}
use Rattle.std.specs.List.{list_any, AllZip, IsDistinct}
use Rattle.std.specs.Map.{keys_of}
use Rattle.std.specs.declared.alloc.Global.{Global}
use Rattle.lexer.specs.declared.source.Source.{Source}
use Rattle.meaning_reports.specs.Loaded.{LoadedPackage}
use Rattle.whole_packages.specs.declared.loaded_package.LoadedPackage.{LoadedPackage as KeptPackage}
use Rattle.whole_packages.specs.LoadedViews.{HaveDistinctPaths, TellsPackage}
use Rattle.load.specs.FilesByName.{AreByName}
use Rattle.load.specs.MeantPaths.{MeantPath, meant_of}
use Rattle.load.specs.Readings.{AreReadingsOf, IsLoadedAs}
use Rattle.load.specs.declared.meant.MeantImport.{MeantImport}
use Rattle.load.specs.declared.packages.GivenPackage.{GivenPackage}
use Rattle.load.specs.declared.packages.LoadFault.{LoadFault}
use Rattle.load.specs.declared.packages.PackageFiles.{PackageFiles}
use Rattle.load.specs.declared.packages.LoadFault.TheVariants.{TooMany, TwoPackages, NamesGiven, OutOfMemory}
use Rattle.load.specs.declared.packages.TheConstants.{MOST_PACKAGES, MOST_FILES}

abbrev pub Text : Type 0
Text = String Global

-- a path; the edition by which its package is judged, its files, and what is said of the paths of their imports
abbrev pub PathAndFiles : Type 0
PathAndFiles = Text × PackageFiles

abbrev pub path_of : GivenPackage → Text
path_of g = g.path

abbrev pub entry_of : GivenPackage → PathAndFiles
entry_of g = (g.path, record { edition = g.edition; sources = g.sources; imports = g.imports })

-- what is said of the paths of imports
abbrev pub paths_of : Vec MeantImport Global → List MeantPath
paths_of imports = map meant_of imports.items

abbrev pub has_many_files : GivenPackage → Bool
has_many_files g = nat_lt MOST_FILES (length g.sources.items)

-- more packages, or more files of one package, than are loaded in one run
abbrev pub has_too_many : List GivenPackage → Bool
has_too_many given = nat_lt MOST_PACKAGES (length given) || list_any has_many_files given

-- the first of these paths that is one of those before it, where some stand before all of them
abbrev pub first_repeated : List Text → List Text → Option Text
first_repeated before [] = None
first_repeated before (p ∷ ps) =
    if list_any (string_eq p) before then Some p else first_repeated (before ++ p ∷ []) ps

-- why packages are not loaded
abbrev pub IsLoadFault : List GivenPackage → LoadFault → Type 0
IsLoadFault given TooMany = has_too_many given ≡ true
IsLoadFault given (TwoPackages path) =
    (has_too_many given ≡ false) × (first_repeated [] (map path_of given) ≡ Some path)
IsLoadFault given (NamesGiven path) = ⊥
IsLoadFault given OutOfMemory = ⊤

-- there are not too many of them, and no two have one path
pub record AreLoadable (given : List GivenPackage) : Type 0 where
  pub few : has_too_many given ≡ false
  pub none_comes_again : first_repeated [] (map path_of given) ≡ None

-- each of these was read so, and that is kept of it
abbrev pub AreLoaded : List PathAndFiles → List LoadedPackage → List KeptPackage → Type 0
AreLoaded [] [] [] = ⊤
AreLoaded (e ∷ es) (p ∷ ps) (k ∷ ks) =
    IsLoadedAs e.1.edition (string_bytes e.0) (paths_of e.1.imports) e.1.sources.items p k × AreLoaded es ps ks
AreLoaded [] [] (k ∷ ks) = ⊥
AreLoaded [] (p ∷ ps) ks = ⊥
AreLoaded (e ∷ es) [] ks = ⊥
AreLoaded (e ∷ es) (p ∷ ps) [] = ⊥

-- what is kept are the packages of these paths and files, in the order of their paths
pub record IsLoadOf (entries : List PathAndFiles) (kept : List KeptPackage) : Type 0 where
  pub in_order : List PathAndFiles
  pub same : IsPermutation entries in_order
  pub sorted : IsSorted string_cmp (map (λ e. e.0) in_order)
  pub meant : List LoadedPackage
  pub are_loaded : AreLoaded in_order meant kept
  pub distinct : HaveDistinctPaths meant

abbrev pub IsLoad : List GivenPackage → List KeptPackage → Type 0
IsLoad given = IsLoadOf (map entry_of given)

-- What serves the proofs

abbrev pub IsRepeated : List GivenPackage → LoadFault → Type 0
IsRepeated given TooMany = ⊥
IsRepeated given (TwoPackages path) = first_repeated [] (map path_of given) ≡ Some path
IsRepeated given (NamesGiven path) = ⊥
IsRepeated given OutOfMemory = ⊤

-- the package has that path and edition, and these files in the order of their names
pub record IsByName (entry : PathAndFiles) (given : GivenPackage) : Type 0 where
  pub is_path : given.path ≡ entry.0
  pub is_edition : given.edition ≡ entry.1.edition
  pub are_imports : given.imports ≡ entry.1.imports
  pub by_name : AreByName entry.1.sources.items given.sources.items

-- the packages of these paths and files, in the order of their paths, and their files in that of their names
pub record AreInOrder (entries : List PathAndFiles) (given : List GivenPackage) : Type 0 where
  pub in_order : List PathAndFiles
  pub same : IsPermutation entries in_order
  pub sorted : IsSorted string_cmp (keys_of in_order)
  pub distinct : IsDistinct string_eq (keys_of in_order)
  pub by_name : AllZip IsByName in_order given

-- this is kept of the package, whose files stay in their order
pub record IsReadAs (given : GivenPackage) (kept : KeptPackage) : Type 0 where
  pub meant : LoadedPackage
  pub tells : TellsPackage meant kept
  pub is_path : meant.path ≡ string_bytes given.path
  pub is_edition : meant.edition ≡ given.edition
  pub same_files : kept.sources.items ≡ given.sources.items
  pub are_files : AreReadingsOf given.edition (paths_of given.imports) given.sources.items meant.files

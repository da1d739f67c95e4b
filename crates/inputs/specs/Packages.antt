-- The packages that words and a list name, and what is read of them. Which files a folder has, the bytes of files, and
-- which folder is the current one, no contract can say: the sources of a word's package are any with names of Go files
-- of its folder, and those of a listed one are the files that its entry names.
use Rattle.std.specs.Prelude.{◌≡◌, ◌≢◌, ℕ, Bool, List, [], ◌∷◌, ◌++◌, Option, Some, None, filter, length, map, nat_lt, string_bytes}
use Rattle.std.specs.List.{AllByRecursion, AllZip}
use Rattle.command_line.specs.Words.{option_texts, texts_of}
use Rattle.command_line.specs.declared.words.Sources.{Sources}
use Rattle.tree.specs.declared.edition.Edition.{Edition}
use Rattle.load.specs.MeantPaths.{MeantPath, meant_of}
use Rattle.load.specs.declared.packages.GivenPackage.{GivenPackage}
use Rattle.folders.specs.GoFiles.{AreSourcesOf}
use Rattle.folders.specs.ListedFiles.{shown_name, AreFilesOf}
use Rattle.folders.specs.Names.{IsPrintable}
use Rattle.folders.specs.Packages.{IsPackageWord}
use Rattle.folders.specs.ReadFiles.{bytes_read, name_read}
use Rattle.folders.specs.declared.whole_files.ReadFile.{ReadFile}
use Rattle.package_list.specs.ListTexts.{first_incomplete, AreListedIn}
use Rattle.package_list.specs.ListedValues.{ImportEntry, PackageEntry}
use Rattle.test_packages.specs.ReadPackages.{packages_to_read}
use Rattle.declared_json.specs.declared.outside.DeclaredPackages.{DeclaredPackages}
use Rattle.inputs.specs.BaselinesRead.{AreKnownBy}
use Rattle.inputs.specs.Editions.{edition_of_run}
use Rattle.inputs.specs.KnownPackages.{AreKnownBeside}
use Rattle.inputs.specs.declared.input.FilesRead.{FilesRead}
use Rattle.inputs.specs.declared.input.ListRead.{ListRead}
use Rattle.inputs.specs.declared.packages.NamedPackage.{NamedPackage}

-- Packages of words

-- the word names the package
abbrev pub IsNamed : List ℕ → NamedPackage → Type 0
IsNamed word named = IsPackageWord word named.path.now named.folder.now

abbrev pub AreNamed : List (List ℕ) → List NamedPackage → Type 0
AreNamed = AllZip IsNamed

-- the package has that path and that edition, its sources are Go files of that folder, and nothing is said of the
-- paths of their imports
pub record IsRead (edition : Edition) (named : NamedPackage) (given : GivenPackage) : Type 0 where
  pub is_path : string_bytes given.path ≡ named.path.now
  pub is_edition : given.edition ≡ edition
  pub are_sources : AreSourcesOf named.folder.now given.sources.items
  pub no_imports : given.imports.items ≡ []

abbrev pub AreRead : Edition → List NamedPackage → List GivenPackage → Type 0
AreRead edition = AllZip (IsRead edition)

-- Packages of a list

-- a report can print the paths
abbrev pub HavePrintablePaths : List PackageEntry → Type 0
HavePrintablePaths = AllByRecursion (λ entry. IsPrintable entry.path)

-- the go command could load all of them
abbrev pub AreComplete : List PackageEntry → Type 0
AreComplete entries = first_incomplete entries ≡ None

-- Where words name a list of packages, it was read, and these are its entries. Where they name none, there are none.
abbrev pub AreListedBy : List (List ℕ) → Option ReadFile → List PackageEntry → Type 0
AreListedBy [] None entries = entries ≡ []
AreListedBy [] (Some file) entries = ⊥
AreListedBy (name ∷ []) None entries = ⊥
AreListedBy (name ∷ []) (Some file) entries =
    (name_read file ≡ name)
    × AreListedIn (bytes_read file) entries
    × (entries ≢ [])
    × AreComplete entries
    × HavePrintablePaths entries
AreListedBy (name ∷ another ∷ more) file entries = ⊥

-- an entry without files is no package
abbrev pub has_files : PackageEntry → Bool
has_files entry = nat_lt 0 (length entry.files)

-- how a report names the files of an entry, by the current folder
abbrev pub shown_files : Option (List ℕ) → PackageEntry → List (List ℕ)
shown_files here entry = map (shown_name here entry.folder) entry.files

-- what an entry says of the path of an import
abbrev pub meant_by : ImportEntry → MeantPath
meant_by i = record { written = i.written; meant = i.meant }

-- the package has that path and that edition, its sources are the files of the entry, all of them, each once, and the
-- paths of their imports mean what it says
pub record IsListed (edition : Edition) (here : Option (List ℕ)) (entry : PackageEntry) (given : GivenPackage)
    : Type 0 where
  pub is_path : string_bytes given.path ≡ entry.path
  pub is_edition : given.edition ≡ edition
  pub are_files : AreFilesOf (shown_files here entry) given.sources.items
  pub are_imports : map meant_of given.imports.items ≡ map meant_by entry.imports

abbrev pub AreListed : Edition → Option (List ℕ) → List PackageEntry → List GivenPackage → Type 0
AreListed edition here entries = AllZip (IsListed edition here) (filter has_files entries)

-- the paths of those that were not asked for
abbrev pub unasked : List PackageEntry → List (List ℕ)
unasked entries = map (λ entry. entry.path) (filter (λ entry. entry.dep_only) entries)

-- to the packages that were given those of these entries were added, as some folder is the current one
pub record AddListed (edition : Edition) (entries : List PackageEntry) (before after : List GivenPackage)
    : Type 0 where
  pub here : Option (List ℕ)
  pub added : List GivenPackage
  pub are_listed : AreListed edition here entries added
  pub together : after ≡ before ++ added

-- All of them

-- First stand the packages of words, each in its place, and then those of the list that are read, each read so; and
-- these are the paths of those in the list that were not asked for.
pub record AreGiven (sources : Sources) (list : ListRead) (given : List GivenPackage) : Type 0 where
  pub packages : List NamedPackage
  pub are_named : AreNamed (texts_of sources.packages.items) packages
  pub of_words : List GivenPackage
  pub are_read : AreRead (edition_of_run sources) packages of_words
  pub entries : List PackageEntry
  pub are_listed : AreListedBy (option_texts sources.list) list.file entries
  pub are_unasked : map string_bytes list.unasked.items ≡ unasked (packages_to_read entries)
  pub of_list : AddListed (edition_of_run sources) (packages_to_read entries) of_words given

-- What was read: the files that the words name beside those of packages, what is known by these of others than the
-- given packages, and these. The findings of an earlier run are among these files.
pub record AreReadFor (sources : Sources) (files : FilesRead) (outside : DeclaredPackages) (given : List GivenPackage)
    : Type 0 where
  pub are_outside : AreKnownBeside sources files.facts given outside
  pub are_known : AreKnownBy (option_texts sources.baseline) files.baseline
  pub are_given : AreGiven sources files.list given

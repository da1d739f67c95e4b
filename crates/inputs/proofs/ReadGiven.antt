-- Sources that are read, and faults of what is read.
use Rattle.std.proofs.Common.{◌≡◌, inl, inr, ℕ, List, [], ◌∷◌, IfErr, Result, Ok, Err, map, string_bytes}
use Rattle.command_line.specs.Words.{option_texts, texts_of}
use Rattle.command_line.specs.declared.words.Sources.{Sources}
use Rattle.load.specs.declared.packages.GivenPackage.{GivenPackage}
use Rattle.declared_json.specs.declared.outside.DeclaredPackages.{DeclaredPackages}
use Rattle.package_list.specs.ListedValues.{PackageEntry}
use Rattle.test_packages.specs.ReadPackages.{packages_to_read}
use Rattle.folders.specs.declared.fault.Fault.{Fault}
use Rattle.folders.specs.declared.fault.Fault.TheVariants.{BadPackage, OutOfMemory}
use Rattle.inputs.specs.declared.input.FilesRead.{FilesRead}
use Rattle.inputs.specs.declared.packages.NamedPackage.{NamedPackage}
use Rattle.inputs.specs.BaselinesRead.{AreKnownBy}
use Rattle.inputs.specs.Editions.{edition_of_run}
use Rattle.inputs.specs.KnownPackages.{AreKnownBeside}
use Rattle.inputs.specs.Packages.{unasked, AddListed, AreListedBy, AreNamed, AreRead, AreReadFor}
use Rattle.inputs.specs.ReadingFaults.{HasBadSource, HasBadWord, IsSourcesFault, IsWordsFault}

-- whatever the fault is
pub on_err : {T : Type 0} (r : Result T Fault) {P : Fault → Type 0} → ((fault : Fault) → P fault) → IfErr r P
on_err (Ok x) h = tt
on_err (Err fault) h = h fault

-- what follows from what is said of the fault
pub weaker_on_err : {T : Type 0} (r : Result T Fault) {P Q : Fault → Type 0} → ((fault : Fault) → P fault → Q fault)
    → IfErr r P
    → IfErr r Q
weaker_on_err (Ok x) follows h = tt
weaker_on_err (Err fault) follows h = follows fault h

-- a bad word among those that are left is one of all
abbrev pub GoesOn : List (List ℕ) → List (List ℕ) → Type 0
GoesOn all left = (text : List ℕ) → HasBadWord left text → HasBadWord all text

-- where each word names a package, none is bad
pub none_bad : (words : List (List ℕ)) (packages : List NamedPackage) → AreNamed words packages → (text : List ℕ)
    → HasBadWord words text
    → ⊥
none_bad [] packages h text bad = absurd bad
none_bad (w ∷ ws) [] h text bad = absurd h
none_bad (w ∷ ws) (n ∷ ns) h text (inl bad) = bad.0 n.path.now n.folder.now h.0
none_bad (w ∷ ws) (n ∷ ns) h text (inr bad) = none_bad ws ns h.1 text bad.1

module _ (sources : Sources) where
  -- where the sources are read, no word is bad
  pub read_words : (files : FilesRead) (outside : DeclaredPackages) (given : List GivenPackage)
      → AreReadFor sources files outside given
      → HasBadSource sources
      → ⊥
  read_words files outside given are bad =
      none_bad (texts_of sources.packages.items) are.are_given.packages are.are_given.are_named bad.0 bad.1

  -- what is named, read and listed, one after the other, and what is known beside it
  pub read_for : (files : FilesRead) (outside : DeclaredPackages) (packages : List NamedPackage) (of_words given : List GivenPackage)
      (entries : List PackageEntry)
      → AreKnownBeside sources files.facts given outside
      → AreKnownBy (option_texts sources.baseline) files.baseline
      → AreRead (edition_of_run sources) packages of_words
      → AreListedBy (option_texts sources.list) files.list.file entries
      → map string_bytes files.list.unasked.items ≡ unasked (packages_to_read entries)
      → AddListed (edition_of_run sources) (packages_to_read entries) of_words given
      → AreNamed (texts_of sources.packages.items) packages
      → AreReadFor sources files outside given
  read_for files outside packages of_words given entries beside known read listed others added named = record {
    are_outside = beside;
    are_known = known;
    are_given = record {
      packages = packages;
      are_named = named;
      of_words = of_words;
      are_read = read;
      entries = entries;
      are_listed = listed;
      are_unasked = others;
      of_list = added;
    };
  }

  -- the fault of words is one of reading
  pub of_words : (fault : Fault) → IsWordsFault (texts_of sources.packages.items) fault
      → IsSourcesFault sources fault
  of_words (BadPackage text) is = inl is
  of_words OutOfMemory is = tt
  of_words _ is = absurd is

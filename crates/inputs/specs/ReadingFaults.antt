-- Why nothing is read for a run, by its words.
use Rattle.std.specs.Prelude.{◌⊎◌, ⊤, ℕ, Bool, true, false, List, [], ◌∷◌, Option, Contains, flat_map, map, string_bytes}
use Rattle.command_line.specs.Words.{option_texts, texts_of}
use Rattle.command_line.specs.declared.words.Sources.{Sources}
use Rattle.folders.specs.GoFiles.{IsOfFolder}
use Rattle.folders.specs.Names.{IsNameIn}
use Rattle.folders.specs.Packages.{IsPackageWord}
use Rattle.folders.specs.ReadFaults.{IsFaultIn, NamesOneOf}
use Rattle.folders.specs.ReadFiles.{input_name}
use Rattle.folders.specs.declared.fault.Fault.{Fault}
use Rattle.folders.specs.declared.fault.Fault.TheVariants.{BadPackage, BaselineNotJson, BaselineWrongShape, CannotRead, CannotWrite, CannotWriteFile, CertificateNotJson, CertificateWrongShape, CertificateWrongVersion, FactsNotJson, FactsWrongShape, FactsWrongVersion, FactsReserved, ListIsEmpty, ListNotJson, ListWrongShape, ListIncomplete, OutOfMemory}
use Rattle.folders.specs.declared.whole_files.ReadFile.{ReadFile}
use Rattle.package_list.specs.ListedValues.{PackageEntry}
use Rattle.test_packages.specs.ReadPackages.{packages_to_read}
use Rattle.inputs.specs.BaselinesRead.{HaveBaselineFault}
use Rattle.inputs.specs.Certificates.{IsBytesFault}
use Rattle.inputs.specs.DeclaredFacts.{HaveFactsFault}
use Rattle.inputs.specs.PackageLists.{HaveListFault}
use Rattle.inputs.specs.Packages.{shown_files, AreListedBy}
use Rattle.inputs.specs.declared.packages.NamedPackage.{NamedPackage}

-- no package is the one that the word names
abbrev pub NamesNone : List ℕ → Type 0
NamesNone word = (path folder : List ℕ) → IsPackageWord word path folder → ⊥

-- the word names a package
pub record NamesOne (word : List ℕ) : Type 0 where
  pub path : List ℕ
  pub folder : List ℕ
  pub is_package : IsPackageWord word path folder

-- some word names no package, and the line has that word; each before it names one
abbrev pub HasBadWord : List (List ℕ) → List ℕ → Type 0
HasBadWord [] text = ⊥
HasBadWord (w ∷ ws) text = (NamesNone w × IsNameIn w text) ⊎ (NamesOne w × HasBadWord ws text)

-- the fault of words that should name packages, where this says that one does not, by the line
abbrev pub IsFaultWhere : (List ℕ → Type 0) → Fault → Type 0
IsFaultWhere is_bad (BadPackage text) = is_bad (string_bytes text)
IsFaultWhere is_bad OutOfMemory = ⊤
IsFaultWhere is_bad _ = ⊥

abbrev pub IsWordFault : List ℕ → Fault → Type 0
IsWordFault word = IsFaultWhere (λ text. NamesNone word × IsNameIn word text)

abbrev pub IsWordsFault : List (List ℕ) → Fault → Type 0
IsWordsFault words = IsFaultWhere (HasBadWord words)

-- What can't be read

-- a folder that one of the words names, or a Go file of it
pub record IsOfWords (words : List (List ℕ)) (name : List ℕ) : Type 0 where
  pub word : List ℕ
  pub is_word : Contains words word
  pub path : List ℕ
  pub folder : List ℕ
  pub is_package : IsPackageWord word path folder
  pub is_of : IsOfFolder folder name

-- a file of a package that is read of the list, as some folder is the current one
pub record IsOfList (lists : List (List ℕ)) (name : List ℕ) : Type 0 where
  pub file : Option ReadFile
  pub entries : List PackageEntry
  pub are_listed : AreListedBy lists file entries
  pub here : Option (List ℕ)
  pub is_of : Contains (flat_map (shown_files here) (packages_to_read entries)) name

-- what is read for a report of these sources, as lines name it: the files that words name, then folders and Go files of
-- packages that words name, and then the files of listed packages
abbrev pub IsToRead : Sources → List ℕ → Type 0
IsToRead sources name =
    Contains (option_texts sources.facts) name
    ⊎ Contains (option_texts sources.baseline) name
    ⊎ Contains (map input_name (option_texts sources.list)) name
    ⊎ IsOfWords (texts_of sources.packages.items) name
    ⊎ IsOfList (option_texts sources.list) name

-- the fault of what is read for a report of these sources: of declared facts, of the report of an earlier run, of a
-- list, and of folders and files
abbrev pub IsReadSourcesFault : Sources → Fault → Type 0
IsReadSourcesFault sources (BadPackage text) = HaveListFault (option_texts sources.list) (BadPackage text)
IsReadSourcesFault sources (CannotRead text) = NamesOneOf (IsToRead sources) (string_bytes text)
IsReadSourcesFault sources FactsNotJson = HaveFactsFault (option_texts sources.facts) FactsNotJson
IsReadSourcesFault sources FactsWrongShape = HaveFactsFault (option_texts sources.facts) FactsWrongShape
IsReadSourcesFault sources FactsWrongVersion = HaveFactsFault (option_texts sources.facts) FactsWrongVersion
IsReadSourcesFault sources (FactsReserved text) = HaveFactsFault (option_texts sources.facts) (FactsReserved text)
IsReadSourcesFault sources BaselineNotJson = HaveBaselineFault (option_texts sources.baseline) BaselineNotJson
IsReadSourcesFault sources BaselineWrongShape = HaveBaselineFault (option_texts sources.baseline) BaselineWrongShape
IsReadSourcesFault sources ListNotJson = HaveListFault (option_texts sources.list) ListNotJson
IsReadSourcesFault sources ListWrongShape = HaveListFault (option_texts sources.list) ListWrongShape
IsReadSourcesFault sources (ListIncomplete text) = HaveListFault (option_texts sources.list) (ListIncomplete text)
IsReadSourcesFault sources ListIsEmpty = HaveListFault (option_texts sources.list) ListIsEmpty
IsReadSourcesFault sources OutOfMemory = ⊤
IsReadSourcesFault sources _ = ⊥

-- All that is read for a run

-- one of the words of packages names none
abbrev pub HasBadSource : Sources → Type 0
HasBadSource sources = (text : List ℕ) × HasBadWord (texts_of sources.packages.items) text

-- each of them names one
abbrev pub NamePackages : Sources → Type 0
NamePackages sources = HasBadSource sources → ⊥

-- the fault of reading for a report of these sources; words come first
abbrev pub IsSourcesFault : Sources → Fault → Type 0
IsSourcesFault sources (BadPackage text) =
    HasBadWord (texts_of sources.packages.items) (string_bytes text)
    ⊎ (NamePackages sources × IsReadSourcesFault sources (BadPackage text))
IsSourcesFault sources OutOfMemory = ⊤
IsSourcesFault sources fault = NamePackages sources × IsReadSourcesFault sources fault

-- the fault of reading for a verification of these sources by the certificates in the file of this name
abbrev pub IsReadingFault : Sources → (file : List ℕ) → Fault → Type 0
IsReadingFault sources file (CannotRead text) =
    NamePackages sources × (IsNameIn file (string_bytes text) ⊎ IsReadSourcesFault sources (CannotRead text))
IsReadingFault sources file CertificateNotJson =
    NamePackages sources × IsFaultIn file IsBytesFault CertificateNotJson
IsReadingFault sources file CertificateWrongShape =
    NamePackages sources × IsFaultIn file IsBytesFault CertificateWrongShape
IsReadingFault sources file CertificateWrongVersion =
    NamePackages sources × IsFaultIn file IsBytesFault CertificateWrongVersion
IsReadingFault sources file fault = IsSourcesFault sources fault

-- the fault of a file's bytes, which are no certificates, no declared facts, no report or no list of packages
abbrev pub is_of_bytes : Fault → Bool
is_of_bytes CertificateNotJson = true
is_of_bytes CertificateWrongShape = true
is_of_bytes CertificateWrongVersion = true
is_of_bytes FactsNotJson = true
is_of_bytes FactsWrongShape = true
is_of_bytes FactsWrongVersion = true
is_of_bytes (FactsReserved text) = true
is_of_bytes BaselineNotJson = true
is_of_bytes BaselineWrongShape = true
is_of_bytes ListNotJson = true
is_of_bytes ListWrongShape = true
is_of_bytes (ListIncomplete text) = true
is_of_bytes ListIsEmpty = true
is_of_bytes (BadPackage text) = true
is_of_bytes _ = false

-- the faults before which something may be written: standard output fails, or the file for certificates
abbrev pub is_of_output : Fault → Bool
is_of_output CannotWrite = true
is_of_output (CannotWriteFile name) = true
is_of_output _ = false

-- What serves the proofs: the folder of one of these packages, or a Go file of it
abbrev pub IsOfPackages : List NamedPackage → List ℕ → Type 0
IsOfPackages packages name =
    (named : NamedPackage) × Contains packages named × IsOfFolder named.folder.now name

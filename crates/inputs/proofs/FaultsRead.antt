-- Faults of what is read are faults of reading.
use Rattle.std.proofs.Common.{◌≡◌, inl, inr, false, ℕ, zero, suc, ◌<◌, List, [], ◌∷◌, length, get_or, Contains, Option, map, String, Global, refl, subst, sym, string_bytes, arith}
use Rattle.std.specs.Prelude.{flat_map}
use Rattle.std.proofs.lemmas.List.Elements.{Contains-append_left, Contains-append_right}
use Rattle.command_line.specs.Words.{option_texts, texts_of}
use Rattle.command_line.specs.declared.words.Sources.{Sources}
use Rattle.folders.specs.GoFiles.{IsOfFolder}
use Rattle.folders.specs.Names.{IsNameIn}
use Rattle.folders.specs.ReadFaults.{IsReadFaultOf, NamesOneOf}
use Rattle.folders.specs.ReadFiles.{bytes_read, input_name, name_read}
use Rattle.folders.specs.declared.fault.Fault.{Fault}
use Rattle.folders.specs.declared.fault.Fault.TheVariants.{BadPackage, BaselineNotJson, BaselineWrongShape, CannotRead, CannotWrite, CannotWriteFile, CertificateNotJson, CertificateWrongShape, CertificateWrongVersion, FactsNotJson, FactsWrongShape, FactsWrongVersion, FactsReserved, ListIsEmpty, ListNotJson, ListWrongShape, ListIncomplete, OutOfMemory}
use Rattle.folders.specs.declared.whole_files.ReadFile.{ReadFile}
use Rattle.package_list.specs.ListedValues.{PackageEntry}
use Rattle.test_packages.specs.ReadPackages.{entry_of, packages_to_read}
use Rattle.test_packages.specs.declared.read_packages.ReadPackage.{ReadPackage}
use Rattle.inputs.specs.BaselinesRead.{IsReadBaselineFault}
use Rattle.inputs.specs.Certificates.{IsBytesFault, IsInputFault}
use Rattle.inputs.specs.DeclaredFacts.{IsReadFactsFault}
use Rattle.inputs.specs.NamedFiles.{IsNamedFault}
use Rattle.inputs.specs.PackageLists.{IsListBytesFault, IsReadListFault}
use Rattle.inputs.specs.Packages.{shown_files, AreListedBy, AreNamed, IsNamed}
use Rattle.inputs.specs.ReadingFaults.{is_of_output, IsOfPackages, IsOfWords, IsReadingFault, IsReadSourcesFault, IsSourcesFault, IsWordsFault, NamePackages}
use Rattle.inputs.specs.declared.packages.NamedPackage.{NamedPackage}

-- Of one file

named_so : (name text : List ℕ) → NamesOneOf (λ told. told ≡ name) text → IsNameIn name text
named_so name text is = subst (λ n. IsNameIn n text) is.is_one is.is_told

pub of_read : (of_bytes : List ℕ → Fault → Type 0) (name : List ℕ) (fault : Fault) → IsReadFaultOf (λ told. told ≡ name) fault
    → IsNamedFault of_bytes (name ∷ []) fault
of_read of_bytes name (CannotRead text) is =
    record { name = name; is_only = refl; so = named_so name (string_bytes text) is }
of_read of_bytes name OutOfMemory is = tt
of_read of_bytes name _ is = absurd is

-- what is no fault of a file that can't be read
abbrev IsOfBytes : (List ℕ → Fault → Type 0) → Type 0
IsOfBytes of_bytes = (bytes : List ℕ) (text : String Global) → of_bytes bytes (CannotRead text) → ⊥

pub of_bytes_in : (of_bytes : List ℕ → Fault → Type 0) (name : List ℕ) (file : ReadFile) → IsOfBytes of_bytes
    → name_read file ≡ name
    → (fault : Fault)
    → of_bytes (bytes_read file) fault
    → IsNamedFault of_bytes (name ∷ []) fault
of_bytes_in of_bytes name file none named (CannotRead text) is = absurd (none (bytes_read file) text is)
of_bytes_in of_bytes name file none named OutOfMemory is = tt
of_bytes_in of_bytes name file none named _ is = record {
  name = name;
  is_only = refl;
  so = record { file = file; is_named = named; is_fault = is };
}

-- Of certificates

pub of_certificate_read : (name : List ℕ) (fault : Fault) → IsReadFaultOf (λ told. told ≡ name) fault → IsInputFault name fault
of_certificate_read name (CannotRead text) is = named_so name (string_bytes text) is
of_certificate_read name OutOfMemory is = tt
of_certificate_read name _ is = absurd is

pub of_certificate_bytes : (name : List ℕ) (file : ReadFile) → name_read file ≡ name → (fault : Fault)
    → IsBytesFault (bytes_read file) fault
    → IsInputFault name fault
of_certificate_bytes name file named (CannotRead text) is = absurd is
of_certificate_bytes name file named OutOfMemory is = tt
of_certificate_bytes name file named _ is = record { file = file; is_named = named; is_fault = is }

-- Of lists

pub of_list_read : (name : List ℕ) (fault : Fault) → IsReadFaultOf (λ told. told ≡ input_name name) fault
    → IsReadListFault (name ∷ []) fault
of_list_read name (CannotRead text) is =
    record { name = name; is_only = refl; so = named_so (input_name name) (string_bytes text) is }
of_list_read name OutOfMemory is = tt
of_list_read name _ is = absurd is

pub of_list_bytes : (name : List ℕ) (file : ReadFile) → name_read file ≡ name → (fault : Fault)
    → IsListBytesFault (bytes_read file) fault
    → IsReadListFault (name ∷ []) fault
of_list_bytes name file named (CannotRead text) is = absurd is
of_list_bytes name file named OutOfMemory is = tt
of_list_bytes name file named _ is = record {
  name = name;
  is_only = refl;
  so = record { file = file; is_named = named; is_fault = is };
}

-- Of all sources

here : {X : Type 0} (x : X) (xs : List X) → Contains (x ∷ xs) x
here x xs = (0, omega arith, refl)

pub only_one : (names : List (List ℕ)) (name : List ℕ) → names ≡ name ∷ [] → Contains names name
only_one names name only = subst (λ ns. Contains ns name) (sym only) (here name [])

module _ (sources : Sources) where
  -- no output
  pub sources_are_no_output : (fault : Fault) → IsReadSourcesFault sources fault → is_of_output fault ≡ false
  sources_are_no_output CannotWrite is = absurd is
  sources_are_no_output (CannotWriteFile name) is = absurd is
  sources_are_no_output _ is = refl

  pub of_facts : (fault : Fault) → IsReadFactsFault (option_texts sources.facts) fault → IsReadSourcesFault sources fault
  of_facts (CannotRead text) is = record {
    name = is.name;
    is_one = inl (only_one (option_texts sources.facts) is.name is.is_only);
    is_told = is.so;
  }
  of_facts OutOfMemory is = tt
  of_facts FactsNotJson is = is
  of_facts FactsWrongShape is = is
  of_facts FactsWrongVersion is = is
  of_facts (FactsReserved text) is = is
  of_facts _ is = absurd is.so.is_fault

  pub of_baseline : (fault : Fault) → IsReadBaselineFault (option_texts sources.baseline) fault
      → IsReadSourcesFault sources fault
  of_baseline (CannotRead text) is = record {
    name = is.name;
    is_one = inr (inl (only_one (option_texts sources.baseline) is.name is.is_only));
    is_told = is.so;
  }
  of_baseline OutOfMemory is = tt
  of_baseline BaselineNotJson is = is
  of_baseline BaselineWrongShape is = is
  of_baseline _ is = absurd is.so.is_fault

  pub of_list : (fault : Fault) → IsReadListFault (option_texts sources.list) fault → IsReadSourcesFault sources fault
  of_list (CannotRead text) is = record {
    name = input_name is.name;
    is_one =
        inr (inr (inl (subst (λ ns. Contains (map input_name ns) (input_name is.name)) (sym is.is_only)
        (here (input_name is.name) []))));
    is_told = is.so;
  }
  of_list OutOfMemory is = tt
  of_list (BadPackage text) is = is
  of_list ListNotJson is = is
  of_list ListWrongShape is = is
  of_list (ListIncomplete text) is = is
  of_list ListIsEmpty is = is
  of_list _ is = absurd is.so.is_fault

  -- what stands in a folder that one of the packages has is that of its word
  word_at : (name : List ℕ) (words : List (List ℕ)) (packages : List NamedPackage) (named : NamedPackage)
      → AreNamed words packages
      → (k : ℕ)
      → k < length packages
      → get_or packages k named ≡ named
      → IsOfFolder named.folder.now name
      → IsOfWords words name
  word_at name [] [] named are k below is of = let bad : ⊥ = omega (arith, below) in absurd bad
  word_at name [] (n ∷ ns) named are k below is of = absurd are
  word_at name (w ∷ ws) [] named are k below is of = absurd are
  word_at name (w ∷ ws) (n ∷ ns) named are zero below is of =
      let its : IsNamed w named = subst (IsNamed w) is are.0 in
      record {
        word = w;
        is_word = here w ws;
        path = named.path.now;
        folder = named.folder.now;
        is_package = its;
        is_of = of;
      }
  word_at name (w ∷ ws) (n ∷ ns) named are (suc k) below is of =
      let rest = word_at name ws ns named are.1 k (omega (arith, below)) is of in
      record {
        word = rest.word;
        is_word = Contains-append_right (w ∷ []) ws rest.word rest.is_word;
        path = rest.path;
        folder = rest.folder;
        is_package = rest.is_package;
        is_of = rest.is_of;
      }

  pub of_folders : (packages : List NamedPackage) → AreNamed (texts_of sources.packages.items) packages → (fault : Fault)
      → IsReadFaultOf (IsOfPackages packages) fault
      → IsReadSourcesFault sources fault
  of_folders packages are (CannotRead text) is =
      let named = is.is_one.0 in
      let there = is.is_one.1 in
      record {
        name = is.name;
        is_one =
            inr (inr (inr (inl (word_at is.name (texts_of sources.packages.items) packages named are there.0 there.1 there.2 is.is_one.2))));
        is_told = is.is_told;
      }
  of_folders packages are OutOfMemory is = tt
  of_folders packages are _ is = absurd is

  pub of_files : (file : Option ReadFile) (entries read : List PackageEntry) → AreListedBy (option_texts sources.list) file entries
      → read ≡ packages_to_read entries
      → (fault : Fault)
      → IsReadFaultOf (λ name. (here : Option (List ℕ)) × Contains (flat_map (shown_files here) read) name) fault
      → IsReadSourcesFault sources fault
  of_files file entries read are same (CannotRead text) is = record {
    name = is.name;
    is_one =
        inr (inr (inr (inr (record {
          file = file;
          entries = entries;
          are_listed = are;
          here = is.is_one.0;
          is_of = subst (λ es. Contains (flat_map (shown_files is.is_one.0) es) is.name) same is.is_one.1;
        }))));
    is_told = is.is_told;
  }
  of_files file entries read are same OutOfMemory is = tt
  of_files file entries read are same _ is = absurd is

-- All that is read for a run

pub of_all_words : (sources : Sources) (file : List ℕ) (fault : Fault) → IsWordsFault (texts_of sources.packages.items) fault
    → IsReadingFault sources file fault
of_all_words sources file (BadPackage text) is = inl is
of_all_words sources file OutOfMemory is = tt
of_all_words sources file _ is = absurd is

module _ (sources : Sources) (well : NamePackages sources) where
  pub of_reading : (fault : Fault) → IsReadSourcesFault sources fault → IsSourcesFault sources fault
  of_reading (BadPackage text) is = inr (well, is)
  of_reading OutOfMemory is = tt
  of_reading _ is = (well, is)

  pub of_input : (file : List ℕ) (fault : Fault) → IsInputFault file fault → IsReadingFault sources file fault
  of_input file (CannotRead text) is = (well, inl is)
  of_input file OutOfMemory is = tt
  of_input file CertificateNotJson is = (well, is)
  of_input file CertificateWrongShape is = (well, is)
  of_input file CertificateWrongVersion is = (well, is)
  of_input file _ is = absurd is.is_fault

  pub of_sources : (file : List ℕ) (fault : Fault) → IsReadSourcesFault sources fault → IsReadingFault sources file fault
  of_sources file (CannotRead text) is = (well, inr is)
  of_sources file OutOfMemory is = tt
  of_sources file CertificateNotJson is = absurd is
  of_sources file CertificateWrongShape is = absurd is
  of_sources file CertificateWrongVersion is = absurd is
  of_sources file (BadPackage text) is = inr (well, is)
  of_sources file _ is = (well, is)

-- a file of a package among those of all
pub in_flat : (here : Option (List ℕ)) (packages : List ReadPackage) (read : ReadPackage) (name : List ℕ) (k : ℕ)
    → k < length packages
    → get_or packages k read ≡ read
    → Contains (shown_files here (entry_of read)) name
    → Contains (flat_map (shown_files here) (map entry_of packages)) name
in_flat here [] read name k below is there = let bad : ⊥ = omega (arith, below) in absurd bad
in_flat here (p ∷ ps) read name zero below is there =
    Contains-append_left (shown_files here (entry_of p)) (flat_map (shown_files here) (map entry_of ps)) name
    (subst (λ r. Contains (shown_files here (entry_of r)) name) (sym is) there)
in_flat here (p ∷ ps) read name (suc k) below is there =
    Contains-append_right (shown_files here (entry_of p)) (flat_map (shown_files here) (map entry_of ps)) name
    (in_flat here ps read name k (omega (arith, below)) is there)

-- Signatures that say nothing of cancel functions and groups. What such a file's uses mean need not be known to know
-- the facts of the package's functions.
-- (This tool's rules.)
use Rattle.std.specs.Prelude.{ℕ, ◌+◌, ◌≡◌, ◌⊎◌, false, List, ◌++◌, None, Some, slice_get, Contains}
use Rattle.tree.specs.declared.edition.Edition.{Edition}
use Rattle.tree.specs.Syntax.{Signature, signature_of, Function, function_declaration, SourceFile}
use Rattle.meaning.specs.FunctionFacts.{Meanings, Item, items_of, item_type, package_facts}
use Rattle.meaning_reports.specs.Loaded.{LoadedPackage, Tables, trees_of, means_in, known_in}
use Rattle.silent_files.specs.SilentFiles.{signature_tells}
use Rattle.silent_files.specs.SilentPackages.{imports_first, imports_group, GiveNone}

abbrev pub signature_items : Signature → List Item
signature_items (signature_of ps rs brackets) = items_of ps ++ items_of rs

-- no parameter and no result of its functions is of a type that is tracked
abbrev pub HasPlainSignatures : Meanings → SourceFile → Type 0
HasPlainSignatures means tree = (f : Function) (i : Item)
    → Contains tree.declarations (function_declaration f)
    → Contains (signature_items f.signature) i
    → item_type means i ≡ None

-- of the file of that number the same is known, or its signatures are plain by both
abbrev pub IsAsGood : (ℕ → Meanings) → (ℕ → Meanings) → ℕ → SourceFile → Type 0
IsAsGood one other n tree =
    (one n ≡ other n) ⊎ (HasPlainSignatures (one n) tree × HasPlainSignatures (other n) tree)

-- the same of each file, where the first has the number `n`
abbrev pub AreAsGood : (ℕ → Meanings) → (ℕ → Meanings) → ℕ → List SourceFile → Type 0
AreAsGood one other n files = (k : ℕ) (tree : SourceFile)
    → slice_get files k ≡ Some tree
    → IsAsGood one other (n + k) tree

pub record SignaturesWithoutNames : Type 0 where
  pub same : (edition : Edition) (one other : ℕ → Meanings) (files : List SourceFile)
      → AreAsGood one other 0 files
      → (name : List ℕ)
      → package_facts edition one files name ≡ package_facts edition other files name
  -- a file that imports none of the two packages has plain signatures, by what its uses mean and by nothing
  pub of_imports : (ps : List LoadedPackage) (p : LoadedPackage) (n : ℕ) (tree : SourceFile)
      → slice_get (trees_of p) n ≡ Some tree
      → imports_first tree ≡ false
      → HasPlainSignatures (means_in ps p n) tree
  -- so has one that doesn't import `errgroup`, and of whose functions no signature names a type of cancel functions
  pub of_names : (ps : List LoadedPackage) (tables : Tables) (p : LoadedPackage) (n : ℕ) (tree : SourceFile)
      → slice_get (trees_of p) n ≡ Some tree
      → imports_group tree ≡ false
      → ((f : Function)
      → Contains tree.declarations (function_declaration f)
      → signature_tells (known_in ps tables p n) f.signature ≡ false)
      → HasPlainSignatures (means_in ps p n) tree
  pub of_nothing : (tree : SourceFile) → HasPlainSignatures (λ at. None) tree
  -- and plain signatures give nothing
  pub give_none : (edition : Edition) (means : ℕ → Meanings) (files : List SourceFile)
      → ((k : ℕ) (tree : SourceFile) → slice_get files k ≡ Some tree → HasPlainSignatures (means k) tree)
      → GiveNone (package_facts edition means files)

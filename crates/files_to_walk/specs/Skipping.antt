-- What the program finds of a file that may be skipped: by its imports, and by the words of its text. The makers of
-- cancel functions and their types are sought where `context` is imported, and `recover` in each file.
use Rattle.std.specs.Prelude.{ℕ, ◌≡◌, ◌⊎◌, Bool, false, List, Option, None, Some, codes, slice_get}
use Rattle.std.specs.List.{list_any}
use Rattle.lexer.specs.declared.source.Source.{Source}
use Rattle.tree.specs.Syntax.{SourceFile}
use Rattle.meaning_reports.specs.Loaded.{imports_of}
use Rattle.silent_files.specs.NamedWords.{LacksEach, LacksWord}
use Rattle.silent_files.specs.SilentPackages.{imports_first, imports_group}
use Rattle.silent_files.specs.SilentWords.{telling_words}

-- it imports neither `context` nor `errgroup`, or its text has none of the words as a name
abbrev pub NamesNoMaker : SourceFile → List ℕ → Type 0
NamesNoMaker tree text = (imports_first tree ≡ false) ⊎ LacksEach telling_words text

-- nothing is to be found in the file of this text, as far as no function of its package gives, and of its imports only
-- those whose path `givers` has
pub record IsQuiet (givers : List ℕ → Bool) (tree : SourceFile) (text : List ℕ) : Type 0 where
  pub no_group : imports_group tree ≡ false
  pub no_giver : list_any (λ s. givers s.path) (imports_of tree) ≡ false
  pub no_maker : NamesNoMaker tree text
  pub no_recover : LacksWord (codes "recover") text

abbrev pub IsQuietIn : (List ℕ → Bool) → SourceFile → Option Source → Type 0
IsQuietIn givers tree None = ⊥
IsQuietIn givers tree (Some source) = IsQuiet givers tree source.bytes.items

-- each file of these texts that is marked with no is such
pub record AreQuiet (givers : List ℕ → Bool) (trees : List SourceFile) (sources : List Source) (marks : List Bool)
    : Type 0 where
  pub each : (n : ℕ) (tree : SourceFile)
      → slice_get trees n ≡ Some tree
      → slice_get marks n ≡ Some false
      → IsQuietIn givers tree (slice_get sources n)

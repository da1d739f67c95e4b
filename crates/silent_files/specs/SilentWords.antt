-- Words by which a text tells that its file names no maker, no type of cancel functions and no `recover`: none of its
-- identifier tokens is written so. So a file may be skipped by its text, and nobody need look at its tree.
-- (This tool's rules.)
use Rattle.std.specs.Prelude.{ℕ, ◌≡◌, false, List, [], ◌∷◌, ◌++◌, codes}
use Rattle.std.specs.List.{list_any}
use Rattle.tree.specs.declared.edition.Edition.{Edition}
use Rattle.tree.specs.Syntax.{SourceFile}
use Rattle.meaning.specs.Mentions.{file_marks}
use Rattle.meaning.specs.Tracked.{Known, plain_makers, cause_makers}
use Rattle.meaning_reports.specs.MeantImports.{IsTreeButForImports}
use Rattle.silent_files.specs.NamedWords.{LacksWord, LacksEach}
use Rattle.silent_files.specs.SilentFiles.{mark_tells, names_recover}

-- the names of the types of cancel functions
abbrev pub cancel_types : List (List ℕ)
cancel_types = codes "CancelFunc" ∷ codes "CancelCauseFunc" ∷ []

-- the names of makers and of these types
abbrev pub telling_words : List (List ℕ)
telling_words = plain_makers ++ (cause_makers ++ cancel_types)

-- what the tree of a text has no name for, whatever paths its imports have
pub record WordsTell : Type 0 where
  pub no_recover : (edition : Edition) (text : List ℕ) (tree : SourceFile)
      → IsTreeButForImports edition text tree
      → LacksWord (codes "recover") text
      → list_any names_recover (file_marks tree) ≡ false
  pub none_tells : (text : List ℕ) (tree : SourceFile) (known : Known)
      → IsTreeButForImports known.edition text tree
      → LacksEach telling_words text
      → list_any (mark_tells known) (file_marks tree) ≡ false

-- What is proved of files in which nothing is to be found.
use Rattle.std.specs.Prelude.{ℕ, ◌≡◌, Bool, false, List}
use Rattle.std.specs.List.{list_any, AllZip}
use Rattle.tree.specs.Syntax.{SourceFile}
use Rattle.meaning.specs.Mentions.{Mark, file_marks}
use Rattle.meaning.specs.Tracked.{Fields, Known}
use Rattle.meaning.specs.Uses.{Callee, Seen, seen_in}
use Rattle.meaning.specs.BodyEvents.{seen_file}
use Rattle.meaning_packages.specs.Credits.{Credits, AreFullCredits}
use Rattle.meaning_packages.specs.CallsFlags.{Flags, FileWithCredits, AreMost}
use Rattle.meaning_reports.specs.Loaded.{LoadedPackage, Tables, known_with}
use Rattle.meaning_reports.specs.PackageReports.{IsFileFinding}
use Rattle.report.specs.Entries.{Entry}
use Rattle.silent_files.specs.SilentFiles.{GivesNothing, GivesByContext, mark_tells, names_recover, IsSilent}
use Rattle.silent_files.specs.SilentPackages.{imports_first, NamesNoGiver, MayBeSkipped, StandsFor}

-- by what is known and by the names alone
abbrev pub SilentFilesAreSilent : Type 0
SilentFilesAreSilent = (known : Known) (marks : List Mark)
    → GivesNothing known
    → list_any names_recover marks ≡ false
    → IsSilent (seen_in known marks)

-- the same where `context` is imported, and no name is that of a maker or of a type of cancel functions
abbrev pub FilesWithoutMakersAreSilent : Type 0
FilesWithoutMakersAreSilent = (known : Known) (marks : List Mark)
    → GivesByContext known
    → list_any (mark_tells known) marks ≡ false
    → list_any names_recover marks ≡ false
    → IsSilent (seen_in known marks)

-- of a file of a package, whatever fields keep
abbrev pub SkippedFilesAreSilent : Type 0
SkippedFilesAreSilent = (fields : Fields) (ps : List LoadedPackage) (tables : Tables) (p : LoadedPackage) (number : ℕ)
    (tree : SourceFile)
    → MayBeSkipped ps tables p number tree
    → IsSilent (seen_file (known_with fields ps tables p number) tree)

-- a file that imports neither `context` nor `errgroup` names no maker, and no type of cancel functions
abbrev pub ImportsTell : Type 0
ImportsTell = (ps : List LoadedPackage) (tables : Tables) (p : LoadedPackage) (number : ℕ) (tree : SourceFile)
    → NamesNoGiver ps tables p number tree
    → imports_first tree ≡ false
    → list_any names_recover (file_marks tree) ≡ false
    → MayBeSkipped ps tables p number tree

-- where each of some files stands for another, both have the same flags and findings
pub record SilentFilesChangeNothing : Type 0 where
  pub flags : (files others : List FileWithCredits) (imported : List ℕ → Flags) (flags : Flags)
      → AllZip StandsFor files others
      → AreMost files imported flags
      → AreMost others imported flags
  pub findings : (calls : Callee → ℕ → Bool) (number : ℕ) (f g : FileWithCredits) (x : Entry)
      → StandsFor f g
      → IsFileFinding calls number f x
      → IsFileFinding calls number g x
  -- no literal of it may be relied on
  pub credits : (seen : Seen) (credits : Credits)
      → IsSilent seen
      → ((literal number : ℕ) → credits literal number ≡ false)
      → AreFullCredits seen credits

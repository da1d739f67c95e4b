-- Files that may be skipped put no cancel function into a field. So which fields of a package keep is asked of the
-- files that are walked.
use Rattle.std.specs.Prelude.{ℕ, Bool, List}
use Rattle.keeping.specs.Keeping.{PutNothing}
use Rattle.meaning.specs.Tracked.{each_field}
use Rattle.meaning_reports.specs.Loaded.{LoadedPackage, Tables, trees_of, known_with}
use Rattle.silent_files.specs.WalkedFiles.{SkipsSilent}

abbrev pub SkippedPutNothing : Type 0
SkippedPutNothing = (ps : List LoadedPackage) (tables : Tables) (p : LoadedPackage) (walked : ℕ → Bool)
    → SkipsSilent ps tables p walked
    → PutNothing walked (known_with each_field ps tables p) 0 (trees_of p)

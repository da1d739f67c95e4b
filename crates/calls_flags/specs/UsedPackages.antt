-- Which packages a package uses, by what was told of those of its files that are walked.
-- (This tool's rules.)
use Rattle.std.specs.Prelude.{ℕ, ◌≡◌, ◌↔◌, Bool, true, List, Some, slice_get}
use Rattle.calls_flags.specs.ToldFiles.{TellAllSeen}
use Rattle.calls_flags.specs.declared.told_file.ToldFile.{ToldFile}
use Rattle.meaning_reports.specs.Loaded.{LoadedPackage, Tables}
use Rattle.meaning_reports.specs.UsedImports.{IsUsed}
use Rattle.silent_files.specs.WalkedFiles.{walked_files, SkipsSilent}
use Rattle.calls_flags.specs.HandedOn.{files_hand}

abbrev pub HandedIsUsed : Type 0
HandedIsUsed = (ps : List LoadedPackage) (tables : Tables) (i : ℕ) (p : LoadedPackage) (walked : ℕ → Bool)
    (kept : List ToldFile) (path : List ℕ)
    → slice_get ps i ≡ Some p
    → SkipsSilent ps tables p walked
    → TellAllSeen (walked_files ps tables p walked) kept
    → (files_hand path kept ≡ true) ↔ IsUsed ps tables i path

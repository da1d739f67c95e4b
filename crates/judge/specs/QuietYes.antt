-- What a yes says of runs: where nothing is said of a package, each return of a frame of the package is as promised, in
-- every run over all given packages, be they yes or not. `meaning_runs` has the runs. They have two premises on
-- functions without a body, as those of packages that were not given: what is declared of one is true when it returns
-- (`DeclaredIsTrue`); and it starts work in a group that it was lent only before it returns (`IsOutsideCall`), while
-- what it started there may start more. And runs know of objects only what a frame itself keeps in their fields: that
-- nobody else gives such a field another value, before it is called or given to others, no run tells.
use Rattle.std.specs.Prelude.{ℕ, ◌≡◌, true, List, Some, slice_get}
use Rattle.meaning_reports.specs.Loaded.{LoadedPackage, Tables}
use Rattle.one_package.specs.declared.judged.Judged.{Judged}
use Rattle.one_package.specs.Judgments.{is_yes}
use Rattle.meaning_runs.specs.PackageYes.{program_of}
use Rattle.meaning_runs.specs.Runs.{IsQuietProgram}

-- the package at that place is told as a yes
pub record IsToldYes (ps : List LoadedPackage) (said : List Judged) (i : ℕ) : Type 0 where
  pub loaded : LoadedPackage
  pub judged : Judged
  pub is_package : slice_get ps i ≡ Some loaded
  pub is_said : slice_get said i ≡ Some judged
  pub is_yes : is_yes judged.report ≡ true

abbrev pub YesAreQuiet : Tables → List LoadedPackage → Tables → List Judged → Type 0
YesAreQuiet declared ps tables said = (i : ℕ)
    → IsToldYes ps said i
    → IsQuietProgram (program_of ps tables declared i)

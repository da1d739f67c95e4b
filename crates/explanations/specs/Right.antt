-- That packages were judged right, by tables that are those of all packages.
use Rattle.std.specs.Prelude.{ℕ, ◌≡◌, List, length, Some, slice_get}
use Rattle.declared_tables.specs.MarkedGivers.{MarksGivers}
use Rattle.meaning_reports.specs.Loaded.{LoadedPackage, Tables}
use Rattle.meaning_reports.specs.PackageReports.{IsSaid, by_paths}
use Rattle.meaning_reports.specs.PackageTables.{AreTables}
use Rattle.one_package.specs.Judgments.{said_view}
use Rattle.one_package.specs.declared.judged.Judged.{Judged}

pub record AreJudgedBy (declared : Tables) (ps : List LoadedPackage) (tables : Tables) (judged : List Judged)
    : Type 0 where
  pub are_tables : AreTables declared ps tables
  pub are_as_many : length judged ≡ length ps
  pub each : (i : ℕ) (p : LoadedPackage) (j : Judged)
      → slice_get ps i ≡ Some p
      → slice_get judged i ≡ Some j
      → IsSaid (by_paths declared) ps tables i p (said_view j)
  pub are_marked : (i : ℕ) (j : Judged) → slice_get judged i ≡ Some j → MarksGivers j.table

-- Packages that are judged by themselves, each in a run of its own (a unit): of what it imports it is told what was
-- written when that was judged. Where all packages were judged so, each after those that it imports, what the units say
-- is the report of all packages in one run.
use Rattle.std.specs.Prelude.{ℕ, ◌≡◌, ◌<◌, List, length, map, Some, slice_get}
use Rattle.imports.specs.Ranks.{Imports, HasRank}
use Rattle.meaning_reports.specs.Loaded.{LoadedPackage, Tables, HaveDistinctPaths, import_list}
use Rattle.meaning_reports.specs.PackageReports.{Rules, Said, IsReportBy, by_paths}
use Rattle.gathering.specs.Results.{Tellings, FollowsFromTold, told_of}

-- one of them: what it was told, what it says of its package, and when it was run
pub record Unit : Type 0 where
  pub told : Tellings
  pub said : Said
  pub time : ℕ

-- they are the units of the packages, in the order of these
pub record AreUnits (rules : Rules) (ps : List LoadedPackage) (units : List Unit) : Type 0 where
  pub are_all : length units ≡ length ps
  -- what each says follows from what it was told, where its package has a rank
  pub follow : (i : ℕ) (p : LoadedPackage) (unit : Unit)
      → slice_get ps i ≡ Some p
      → slice_get units i ≡ Some unit
      → HasRank (import_list ps) i
      → FollowsFromTold rules ps i p unit.told unit.said
  -- of each import that is what the unit of the import tells
  pub are_told : (i j : ℕ) (unit imported : Unit)
      → Imports (import_list ps) i j
      → slice_get units i ≡ Some unit
      → slice_get units j ≡ Some imported
      → unit.told j ≡ Some (told_of imported.said)
  -- and that was run before
  pub are_in_time : (i j : ℕ) (unit imported : Unit)
      → Imports (import_list ps) i j
      → slice_get units i ≡ Some unit
      → slice_get units j ≡ Some imported
      → imported.time < unit.time

-- what the units say is the report of all packages
abbrev pub UnitsAreTheReportBy : Rules → Type 0
UnitsAreTheReportBy rules = (ps : List LoadedPackage) (units : List Unit)
    → HaveDistinctPaths ps
    → AreUnits rules ps units
    → IsReportBy rules ps (map (λ unit. unit.said) units)

abbrev pub UnitsAreTheReport : Type 0
UnitsAreTheReport = (declared : Tables) → UnitsAreTheReportBy (by_paths declared)

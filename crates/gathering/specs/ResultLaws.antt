-- What is said of results of single packages: how one follows from others, what they are together, and that there is
-- one of each package at most. By paths they are so whatever is declared of packages that were not given.
use Rattle.std.specs.Prelude.{ℕ, ◌≡◌, ◌↔◌, List, [], length, Some, slice_get}
use Rattle.meaning_reports.specs.Loaded.{LoadedPackage, Tables, HaveDistinctPaths}
use Rattle.meaning_reports.specs.PackageReports.{Rules, Said, IsYesBy, IsReportBy, by_paths}
use Rattle.gathering.specs.Results.{AreRightBelow, IsResult, Results, AreResults, AreOfRanked, AreOfAll, FollowsFrom, AreTablesOf, HaveTables}

-- what follows from results of what a package imports is a result
abbrev pub WhatFollowsIsAResultBy : Rules → Type 0
WhatFollowsIsAResultBy rules = (ps : List LoadedPackage) (i : ℕ) (p : LoadedPackage) (results : Results) (said : Said)
    → slice_get ps i ≡ Some p
    → AreResults rules ps results
    → FollowsFrom rules ps i p results said
    → IsResult rules ps i p said

abbrev pub WhatFollowsIsAResult : Type 0
WhatFollowsIsAResult = (declared : Tables) → WhatFollowsIsAResultBy (by_paths declared)

-- a result says nothing of its package exactly where the package is yes
abbrev pub ResultsTellYesBy : Rules → Type 0
ResultsTellYesBy rules = (ps : List LoadedPackage) (tables : Tables) (i : ℕ) (p : LoadedPackage) (said : Said)
    → AreRightBelow rules ps tables i
    → IsResult rules ps i p said
    → (said.entries ≡ []) ↔ IsYesBy rules ps tables i

abbrev pub ResultsTellYes : Type 0
ResultsTellYes = (declared : Tables) → ResultsTellYesBy (by_paths declared)

-- results of all packages that have a rank, and maybe of others, have tables
abbrev pub ResultsHaveTablesBy : Rules → Type 0
ResultsHaveTablesBy rules = (ps : List LoadedPackage) (results : Results)
    → HaveDistinctPaths ps
    → AreResults rules ps results
    → AreOfRanked ps results
    → (tables : Tables) × AreTablesOf rules ps results tables

abbrev pub ResultsHaveTables : Type 0
ResultsHaveTables = (declared : Tables) → ResultsHaveTablesBy (by_paths declared)

-- where all packages were judged, they are the tables that the results say
abbrev pub ResultsSayTheTablesBy : Rules → Type 0
ResultsSayTheTablesBy rules = (ps : List LoadedPackage) (results : Results) (tables : Tables)
    → HaveDistinctPaths ps
    → AreResults rules ps results
    → AreOfAll ps results
    → HaveTables rules.declared ps results tables
    → AreTablesOf rules ps results tables

abbrev pub ResultsSayTheTables : Type 0
ResultsSayTheTables = (declared : Tables) → ResultsSayTheTablesBy (by_paths declared)

-- results of all packages, in their order, are the report
abbrev pub ResultsAreTheReportBy : Rules → Type 0
ResultsAreTheReportBy rules = (ps : List LoadedPackage) (report : List Said)
    → HaveDistinctPaths ps
    → length report ≡ length ps
    → AreResults rules ps (slice_get report)
    → IsReportBy rules ps report

abbrev pub ResultsAreTheReport : Type 0
ResultsAreTheReport = (declared : Tables) → ResultsAreTheReportBy (by_paths declared)

-- where all packages that have a rank were judged, there is one result of each package at most
abbrev pub OneResultBy : Rules → Type 0
OneResultBy rules = (ps : List LoadedPackage) (results : Results) (i : ℕ) (p : LoadedPackage) (one other : Said)
    → HaveDistinctPaths ps
    → AreResults rules ps results
    → AreOfRanked ps results
    → slice_get ps i ≡ Some p
    → IsResult rules ps i p one
    → IsResult rules ps i p other
    → one ≡ other

abbrev pub OneResult : Type 0
OneResult = (declared : Tables) → OneResultBy (by_paths declared)

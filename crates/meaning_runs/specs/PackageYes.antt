-- The promise, said of a report of packages: whatever packages are given, all of them run that count as given, and
-- under the tables of the report each return of a frame of a package of which the report says nothing is quiet, in
-- every run in which what is declared of packages that were not given is true.
use Rattle.std.specs.Prelude.{◌≡◌, ℕ, List, [], Option, Some, None, slice_get}
use Rattle.meaning_reports.specs.Loaded.{LoadedPackage, HaveDistinctPaths, PackageTable, Tables, counts, no_table, package_at}
use Rattle.meaning_reports.specs.PackageReports.{Rules, Said, IsReportBy, by_paths}
use Rattle.meaning_runs.specs.Bodies.{Program, IsRun}
use Rattle.meaning_runs.specs.Runs.{IsQuietProgram}
use Rattle.meaning_runs.specs.Promise.{AreTreesOfTexts}

-- the report has the package at that place, and nothing is said of it
pub record IsYesIn (ps : List LoadedPackage) (report : List Said) (i : ℕ) : Type 0 where
  pub loaded : LoadedPackage
  pub said : Said
  pub is_package : slice_get ps i ≡ Some loaded
  pub is_said : slice_get report i ≡ Some said
  pub is_yes : said.entries ≡ []

-- What is declared of a package that is given is passed over.
abbrev pub if_not_given : Option LoadedPackage → PackageTable → PackageTable
if_not_given None table = table
if_not_given (Some p) table = no_table

abbrev pub declared_beside : List LoadedPackage → Tables → Tables
declared_beside ps declared path = if_not_given (package_at path ps) (declared path)

-- These packages, what these tables know of functions, what is declared of packages that are not among these, and the
-- package at that place, which is looked at. All run that count as given. In the second edition one with a file without
-- a tree, or with two functions of one name, does not: so its functions are such without a body, as are those of a
-- package that was not given, and what else it does the environment does.
abbrev pub program_of : List LoadedPackage → Tables → Tables → ℕ → Program
program_of ps tables declared i = record {
  packages = ps;
  tables = tables;
  declared = declared_beside ps declared;
  looked_at = i;
  are_run = λ home. counts (slice_get ps home);
}

-- the trees of the packages that runs go through are those of texts
abbrev pub AreOfTexts : Program → Type 0
AreOfTexts p = (i : ℕ) (q : LoadedPackage) → IsRun p i → slice_get p.packages i ≡ Some q → AreTreesOfTexts q

abbrev pub YesOfAPackageIsQuietBy : Rules → Type 0
YesOfAPackageIsQuietBy rules = (ps : List LoadedPackage) (report : List Said) (i : ℕ)
    → (is_report : IsReportBy rules ps report)
    → IsYesIn ps report i
    → HaveDistinctPaths ps
    → AreOfTexts (program_of ps is_report.tables rules.declared i)
    → IsQuietProgram (program_of ps is_report.tables rules.declared i)

-- whatever is declared
abbrev pub YesOfAPackageIsQuiet : Type 0
YesOfAPackageIsQuiet = (declared : Tables) → YesOfAPackageIsQuietBy (by_paths declared)

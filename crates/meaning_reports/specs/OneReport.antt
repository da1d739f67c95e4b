-- Packages have one report: what is said of each, the tables and the order in which it is said are determined by the
-- packages as they were read, and by what is declared of others. That they have a report is not said here; it is what
-- the program computes, of packages of different paths.
use Rattle.std.specs.Prelude.{ℕ, ◌≡◌, List, Some, slice_get}
use Rattle.meaning_packages.specs.CallsFlags.{Flags}
use Rattle.meaning_reports.specs.Loaded.{LoadedPackage, Tables, imported_tables}
use Rattle.meaning_reports.specs.WholeFaults.{HasNoWholeFault}
use Rattle.meaning_reports.specs.PackageTables.{FlagsRule}
use Rattle.meaning_reports.specs.PackageReports.{Rules, Said, IsReportBy, by_paths}

-- what is known of the packages that a package imports determines its flags
abbrev pub AreDetermined : FlagsRule → Type 0
AreDetermined are_flags = (ps : List LoadedPackage) (one other : Tables) (i : ℕ) (p : LoadedPackage)
    (flags more : Flags)
    → slice_get ps i ≡ Some p
    → HasNoWholeFault ps i
    → imported_tables p one ≡ imported_tables p other
    → are_flags ps one i p flags
    → are_flags ps other i p more
    → flags ≡ more

-- two reports of the same packages are equal, by the same that is declared of others
abbrev pub OneReportBy : Rules → Type 0
OneReportBy rules = (ps : List LoadedPackage) (one other : List Said)
    → IsReportBy rules ps one
    → IsReportBy rules ps other
    → one ≡ other

abbrev pub OneReport : Type 0
OneReport = (declared : Tables) → OneReportBy (by_paths declared)

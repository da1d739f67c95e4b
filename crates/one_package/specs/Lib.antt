-- For a reader of the contracts: what the program keeps of a package that was judged and of those around it, and what
-- it stands for. The rules are those of `meaning_reports/specs/PackageReports.antt` and
-- `meaning_reports/specs/PackageTables.antt`.
pub mod Judgments
pub mod Dots
pub mod Needed
pub mod ToldPackages
pub mod Certified
pub mod Results

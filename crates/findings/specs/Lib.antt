-- For a reader of the contracts: what is found in the files of a package, and the fields that it tells of.
-- The rules are those of `meaning_reports/specs/PackageReports.antt`.
pub mod FoundEntries
pub mod KeptFields

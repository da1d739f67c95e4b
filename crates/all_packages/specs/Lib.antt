-- For a reader of the contracts: what the program says of all packages once they are judged. The rules are those of
-- `meaning_reports/specs/PackageReports.antt` and `meaning_reports/specs/PackageTables.antt`.
pub mod Reports
-- What serves the proofs: what is known while packages are judged one after another.
pub mod Progress

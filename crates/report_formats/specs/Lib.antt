-- For a reader of the contracts: the text of a report in each of its forms, and that of a unit.
pub mod Formats
pub mod ReportLines
pub mod UnitText
pub mod UnitJson

-- What serves the proofs.

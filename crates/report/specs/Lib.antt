-- For a reader of the contracts: what a report says and in which order, notes, sources, and what it is to take bytes.
pub mod Codes
pub mod Entries
pub mod Notes
pub mod ReportText
pub mod Writing
-- What serves the proofs.
pub mod Cursors
pub mod Pieces

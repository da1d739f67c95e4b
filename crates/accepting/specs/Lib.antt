-- For a reader of the contracts: findings as a report tells them, which findings are accepted by lines, which lines
-- accept nothing, which findings stand in the report of an earlier run, which of those are gone, and all of it
-- together.
pub mod Findings
pub mod Merged
pub mod ByLines
pub mod ByBaseline
pub mod Gone
pub mod Found
-- Laws of these, which are proved.
pub mod Laws
-- What serves the proofs.
pub mod LinesKept
pub mod KeptKeys

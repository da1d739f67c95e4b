-- For a reader of the contracts: what is kept of a table, what is made of it again, and that it is the same.
pub mod KeptTables
pub mod KeptLaws
-- What serves the proofs.
pub mod KeptParts

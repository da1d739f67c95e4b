-- For a reader of the contracts: what a table says, which values and texts are those of one, and why a text is not.
pub mod Tables
pub mod TableValues
pub mod TableTexts
pub mod WrittenTables
-- What serves the proofs.
pub mod MembersRead
pub mod Parts

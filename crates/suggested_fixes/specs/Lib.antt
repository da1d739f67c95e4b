-- For a reader of the contracts: which edits lie within a text.
pub mod Edits

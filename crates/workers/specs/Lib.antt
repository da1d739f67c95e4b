-- What the contracts of this crate name: how many workers there are, and what comes of items.
pub mod Counts
pub mod Outcomes
-- What comes of the pieces of a list.
pub mod Pieces
pub mod Faults

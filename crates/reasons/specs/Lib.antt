-- The words with which a report says why a line stands there: what happens on a way, and in which form a name stands.
pub mod Words
pub mod Branches
pub mod Reasons
-- What only serves proofs.
pub mod WordViews

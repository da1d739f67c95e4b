-- For a reader of the contracts: what the notes of a diagnostic are.
pub mod Plain
pub mod Explained
pub mod Uses
pub mod Units
-- What serves the proofs: what is found on the way.
pub mod Found
pub mod KeptUses
pub mod PackageReasons
pub mod Pointers
pub mod Right
pub mod ToldViews
pub mod Ways

-- For a reader of the contracts: what is said and kept of a package that is judged by itself, and what that says of all
-- packages.
pub mod Units
pub mod OneUnit
pub mod UnitLaws
-- What serves the proofs.
pub mod UnitParts

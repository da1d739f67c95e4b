-- What a way is, and where it ends.
pub mod Ways
pub mod ClassSteps
pub mod Ends
pub mod Found
pub mod Asked
-- What only serves proofs.
pub mod ClassLaws

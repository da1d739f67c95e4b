-- The faults of a body, each with the notes of a shortest way to it.
pub mod BodyWays
-- What only serves proofs.
pub mod ToldViews

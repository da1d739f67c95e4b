-- For a reader of the contracts: what the program keeps of packages beside what it knows of each function.
pub mod Signs
-- What serves the proofs: what functions give and take, and which files nothing need be told of, by their imports and
-- words.
pub mod Functions
pub mod Skipping

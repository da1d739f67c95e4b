-- For a reader of the contracts: the bodies of files by their numbers.
pub mod Numbers
-- What serves the proofs: what is told of a file, a body of a file, marks of claims, and what is found of a body.
pub mod Told
pub mod Built
pub mod Marks
pub mod Found

-- For a reader of the contracts: what a history comes to, which are legal, and what a board answers.
pub mod History
pub mod Legal
pub mod Answers
-- What is proved of these: examples.
pub mod Examples
pub mod ThreeWorkers
-- What serves the proofs: what the code keeps, and what is so of it.
pub mod Ready
pub mod Importers
pub mod Kept

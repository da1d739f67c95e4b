-- For a reader of the contracts: what a worker keeps of a package that it judged, by what this is right, what a worker
-- is to do, and which fault is told.
pub mod Results
pub mod Naming
pub mod Jobs
pub mod Faults
-- What serves the proofs: why a worker has nothing to do, and what is kept in the end.
pub mod Idle
pub mod Slots
-- By what proofs tell results apart.
pub mod KeptCode

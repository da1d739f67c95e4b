pub mod FieldFaults
pub mod HiddenLefts
pub mod LeftSides
pub mod NamedResults
pub mod OutcomesOfEntries
pub mod TrackedOutside
pub mod SentParts

pub mod AddingBy
pub mod OuterMarks
pub mod FieldsTold
pub mod FoundOut
pub mod ReturnMarks
pub mod WalkLists
pub mod WalkSteps

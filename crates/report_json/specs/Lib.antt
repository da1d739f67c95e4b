-- For a reader of the contracts: the text of a report as JSON, and what it tells of functions, notes, and ways.
pub mod JsonText
pub mod InFunctions
pub mod NoteKinds
pub mod Turns
pub mod Causes
pub mod StepEnds
pub mod WayLines
-- What serves the proofs.
pub mod Pieces

pub mod UnitFindings
pub mod NoteLines
pub mod KeepingLines
pub mod ShownLines
pub mod TextParts
pub mod TextExamples

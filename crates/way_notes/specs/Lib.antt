-- What is told of a way.
pub mod Notes
-- Where it goes.
pub mod Offsets
-- What only serves proofs.
pub mod NoteViews

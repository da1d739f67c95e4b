-- What the contracts of this crate name: objects, and what may be a row that obtains into a field.
pub mod ObjectViews

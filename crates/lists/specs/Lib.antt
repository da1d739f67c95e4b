-- What the contracts of this crate name: the items of a number.
pub mod ListViews

-- What the contracts of this crate name: what a walk adds in each edition.
pub mod WalkViews

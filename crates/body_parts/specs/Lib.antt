-- What the contracts of this crate name: what a part in memory stands for, and which parts are wanted.
pub mod PartViews

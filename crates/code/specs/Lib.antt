-- What the contracts of this crate name: what a code in memory stands for.
pub mod CodeViews

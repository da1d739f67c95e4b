pub mod SplitConstraint
pub mod Starts

pub mod CameBack
pub mod Kept
pub mod Passed
pub mod Places
pub mod VariableAtPlace

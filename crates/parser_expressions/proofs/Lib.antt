pub mod Operators
pub mod Suffixes
pub mod GrownExpressions
pub mod Alone

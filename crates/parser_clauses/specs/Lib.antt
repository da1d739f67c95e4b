pub mod Headers
pub mod Guards
pub mod Clauses

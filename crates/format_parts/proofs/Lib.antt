pub mod Steps
pub mod Spelled
pub mod NoteParts
pub mod Values
pub mod FixParts

pub mod Faults
pub mod FileParts
pub mod Parsed

mod Gathered
mod Shared
pub mod ImportedResults
pub mod KnownResults
pub mod RightResults
pub mod RightSlots
pub mod ToldFaults

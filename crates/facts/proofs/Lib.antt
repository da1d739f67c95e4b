pub mod Counted
pub mod FactMaps
pub mod FactParts
pub mod Gathered
pub mod ListedItems

mod Placed
pub mod Parts

pub mod Views
pub mod Depths

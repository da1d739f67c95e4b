pub mod Words
pub mod Gives
pub mod Places
pub mod Parts
pub mod Ahead

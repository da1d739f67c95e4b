-- What the contracts of this crate name: what the uses of a file mean, and the items of returns, as the program keeps
-- them.
pub mod Meanings
pub mod Returned

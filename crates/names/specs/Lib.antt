-- what the contracts of the public calls say
pub mod Answers
pub mod Faults
pub mod KeptMeanings
pub mod UseMeanings
-- what the functions inside the crate promise one another
pub mod Before
pub mod Maps
pub mod Ordered
pub mod Uses

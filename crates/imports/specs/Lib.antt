-- For a reader of the contracts: which packages have a rank and what an order is, and what the program keeps of it.
pub mod Ranks
pub mod Views
-- How the program gives ranks, which the contracts of `first_places` and of private functions name.
pub mod Settling

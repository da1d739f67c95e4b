-- For a reader of the contracts: which parameters are known to be called, as the program keeps it.
pub mod Called

-- For a reader of the contracts: which tables are declared, and what the program keeps of them.
pub mod DeclaredTables
-- Which of them have no function that gives a cancel function.
pub mod MarkedGivers
-- What serves the proofs: what a function adds to what is declared before it.
pub mod AddedFunctions

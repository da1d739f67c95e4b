-- For a reader of the contracts: which certificate of a body is the least.
pub mod Least
pub mod BodyRows
-- What is proved of least certificates.
pub mod LeastLaws
-- How the program makes rows.
pub mod Rows

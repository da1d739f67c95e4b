-- What is read of a function, and of what is kept of a package.
pub mod FunctionsRead
pub mod VetxRead
-- A text keeps one package at most, and what is written reads back.
pub mod Writing
pub mod VetxLaws

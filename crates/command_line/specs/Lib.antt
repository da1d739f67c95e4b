-- To be trusted: what the words of the command line ask for, and those of the go command.
pub mod Words
pub mod VetWords
-- What serves the proofs
pub mod KeptWords
pub mod VetViews

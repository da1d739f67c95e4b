-- what the contracts of `lex` and `place` and the laws mean, and so what is to be trusted
pub mod Bytes
pub mod Letters
pub mod Spelling
pub mod Pieces
pub mod Cut
pub mod Semicolons
pub mod Tokens
pub mod Faults
pub mod Place
-- what the functions inside the crate promise one another, which the proofs hold against the definitions above
pub mod Dispatch

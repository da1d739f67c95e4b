-- For a reader of the contracts: what is known of Go's library, and what is declared beside packages that are given.
pub mod Library
pub mod LibraryText
pub mod Beside

-- What a search finds.
pub mod Searched
-- How it goes on.
pub mod Searching

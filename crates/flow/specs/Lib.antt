-- For a reader of the contracts: which nodes a code has and which of them can follow each, and what is proved of it.
pub mod GraphOfCode
pub mod Walks
pub mod GraphViews
pub mod NodeOrder
pub mod TurnSizes

-- For a reader of the contracts: where a directive stands, what it accepts, the directives of a text, and their laws.
pub mod Marks
pub mod Forms
pub mod Directives
pub mod Laws

-- For a reader of the contracts: where the body of a function ends, in which declared function an offset stands, where
-- a statement ends, and by which call a value is bound.
pub mod Bodies
pub mod Functions
pub mod Steps
pub mod Calls

-- For a reader of the contracts: what stands at the tokens of a text, what is read of it, and made of an object.
pub mod Standing
pub mod Made
-- What serves the proofs: lists by their items, objects by their keys, and how a value starts.
pub mod Keyed
pub mod Starting

-- What the contracts of this crate name: the value of a name.
pub mod ValuesByName

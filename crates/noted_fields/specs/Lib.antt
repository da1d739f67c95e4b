-- What the contracts of this crate name: what is said of fields, and what follows.
pub mod NotedFields

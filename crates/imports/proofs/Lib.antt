pub mod Chains
pub mod FirstPlaces
pub mod GivenImports
pub mod Membership
pub mod Ordered
pub mod Settled
pub mod WrittenRows

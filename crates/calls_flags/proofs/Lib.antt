mod BodiesKept
pub mod ComesBack
mod ClaimedParameters
mod ClaimsAdded
pub mod ClaimsOf
pub mod CreditedFiles
pub mod GreatestFlags
pub mod KeptClaims
pub mod KeptFiles
pub mod MoreCalls
pub mod ToldInOrder
pub mod FileHands
pub mod UsedPackages

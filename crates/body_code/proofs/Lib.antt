pub mod SpecEvents
pub mod CaseLists
pub mod Bodies
pub mod FallingClauses
pub mod Parts
pub mod Branches

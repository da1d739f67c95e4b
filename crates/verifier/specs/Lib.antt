-- To be trusted: what is said, by which certificates, and what follows from it.
pub mod Verified
pub mod Rules
pub mod GivenViews
pub mod VerifierLaws
-- For a reader of the contracts: what the program finds, part by part.
pub mod BareFiles
pub mod BelievedClaims
pub mod ReliedOn
pub mod SettledPlaces
pub mod FoundBodies
pub mod SaidEntries

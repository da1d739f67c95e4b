mod BelievedFlags
mod CertifiedBodies
mod ComingBack
mod FairCredits
mod FoundBackward
mod FoundCertificates
mod FoundPackages
mod GivenMaps
mod LeftNumbers
mod OneOrder
pub mod OneVerified
mod OwnPasses
mod SaidFiles
mod SaidParts
mod SettledRows
pub mod VerifiedYes

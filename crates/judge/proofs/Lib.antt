pub mod QuietYes
pub mod LoadedPackages
pub mod SourcePlaces
mod Loads
mod NotGivenPaths
mod WorkersFaults
mod SameTexts
pub mod OneLoad
mod OneReport
mod CertifiedReports
mod ExplainedReports
mod VerifiedPlaces
mod VerifiedReports
mod OwnGroups
mod LowerLaws
mod MoreKnown
mod OneTable
mod FileAgreement
mod OneParameter
mod PackageFiles
mod PackageAgreement
mod GivenClaims
mod GivenRowsFound
mod CertificateAgreement
mod FewParameters
mod MoreFaults
mod FullCredits
mod WrittenNumbers
mod AlikePackages
mod GivenReports

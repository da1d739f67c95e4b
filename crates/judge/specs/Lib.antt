-- For a reader of the contracts: the report of given packages.
pub mod QuietYes
pub mod SourcePlaces
pub mod Reports
pub mod OneReport
pub mod CheckFaults
pub mod Certified
pub mod Explained
pub mod Verified
pub mod NotGiven
-- To be trusted: where `check` and `verify` agree, of the bytes of files.
pub mod GivenPackages
pub mod FullCredits
-- The same of trees.
pub mod AgreementLaws
pub mod PackageLaws
pub mod CertificateLaws
-- For a reader of the laws: in which groups the bodies of a file start literals.
pub mod OwnGroups

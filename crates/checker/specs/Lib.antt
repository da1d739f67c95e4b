-- For a reader of the contracts: when a certificate holds.
pub mod Certificates
-- What is proved of it.
pub mod CheckerLaws
-- What the program keeps of a body, and what it stands for.
pub mod LaidOutViews
-- How the program goes over a certificate, and makes states of rows.
pub mod CertificateTests
pub mod Loaded
pub mod LoadingSteps
pub mod NodeStates
pub mod RowLaws

-- For a reader of the contracts: which certificates are those of packages.
pub mod CertifiedBodies
pub mod CertifiedPackages
pub mod CertifiedReports
-- What is proved of them.
pub mod OrderLaws
-- What serves the proofs.
pub mod AddedEntries
pub mod KeptCertificates

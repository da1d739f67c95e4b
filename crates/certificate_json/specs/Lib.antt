-- For a reader of the contracts: what certificates say, which values and texts are those of some, and why one is not.
pub mod Certificates
pub mod CertificateValues
pub mod CertificateTexts
pub mod WrittenCertificates
-- What serves the proofs.
pub mod MembersRead
pub mod Parts
pub mod RowsHeld

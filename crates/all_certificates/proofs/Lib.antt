mod AddedEntries
mod CertifiedFiles
mod JoinedEntries
mod SharedJobs
mod AllCertified
mod MadeCertificates
mod BodyOrder
pub mod InOrder
mod EntryOfBody

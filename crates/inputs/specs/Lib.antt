-- What is to be trusted: the edition of a run; which packages words name and what is read of them; what is known of
-- others; which certificates, which declared facts, which findings of an earlier run and which list of packages a file
-- has; how a report is told; and with which faults reading and loading end.
pub mod Editions
pub mod Packages
pub mod KnownPackages
pub mod NamedFiles
pub mod Certificates
pub mod DeclaredFacts
pub mod BaselinesRead
pub mod PackageLists
pub mod LoadFaults
pub mod ReadingFaults
pub mod Tellings

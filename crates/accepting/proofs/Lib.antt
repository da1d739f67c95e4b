-- Laws for other crates: without directives nothing changes.
pub mod KeptLines
pub mod NoDirectives
mod LineLists
mod GoneFindings
mod KeyCounts
mod ToldByBaseline
-- What holds of any report.
mod NothingLost
mod VerdictsSay
mod OwnLines
mod NoMoreKeys

-- To be trusted: which words name a package, which files of a folder are its sources, what can go wrong there, and
-- which files were read or written, which module a folder belongs to, and which files of a unit are read.
pub mod Names
pub mod Packages
pub mod GoFiles
pub mod ListedFiles
pub mod ReadFaults
pub mod ReadFiles
pub mod WrittenFiles
pub mod GoModules
pub mod UnitFiles
-- What serves the proofs
pub mod CutLines

-- For a reader of the contracts: in which order files are kept, of which packages imports are, what the bytes of files
-- are to be read as, what is loaded of given packages, and what is declared of others.
pub mod FilesByName
pub mod MeantPaths
pub mod Readings
pub mod GivenPackages
pub mod LoadedBeside
-- What serves the proofs
pub mod Ahead

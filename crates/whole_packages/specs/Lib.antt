-- For a reader of the contracts: what the program keeps of packages, and what it stands for.
pub mod LoadedViews
pub mod CountedViews
-- What serves the proofs: the entries of a package as a whole, part by part.
pub mod WholeEntries

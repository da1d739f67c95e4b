-- For a reader of the contracts: paths as the go command writes them, and which packages of a list are read.
pub mod TestPaths
pub mod ReadPackages
-- What serves the code.
pub mod KnownPaths
pub mod MeantImports

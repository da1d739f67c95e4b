-- What is to be said of packages: to be trusted.
pub mod MeantImports
pub mod MethodNames
pub mod Loaded
pub mod WholeFaults
pub mod PackageTables
pub mod DotImports
pub mod UsedImports
pub mod PackageReports
-- What is proved of them.
pub mod OneReport
pub mod EntryFiles
pub mod CountedPackages

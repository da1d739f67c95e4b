pub mod AllPackages
mod AllReports
pub mod FoundPackages
mod ImportedRows
pub mod JudgedImports
pub mod KeptPackages
mod NextPackage

pub mod CountedPackages
pub mod FaultyPackages
pub mod ImportedPaths
mod KeptPackages
mod NumberedTrees
mod SecondPlaces
mod WholeOf

mod CountedMarks
mod FaultyMarks
mod GivenOrder
pub mod ImportedNames
pub mod NearGiven
mod PackageNames
mod ToldNear

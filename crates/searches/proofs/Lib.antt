pub mod AddedSteps
pub mod Adding
pub mod Depths
pub mod Following
pub mod GrownLists
pub mod Searches
pub mod SeenPairs
pub mod Trails

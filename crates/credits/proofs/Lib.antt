pub mod SettledPlaces
pub mod BodiesByPlace
mod FoundBackward
pub mod PairedLists
mod SearchedPaths
mod BodyVariables
pub mod OwnGroups
pub mod SettledBodies
pub mod ReliedOn

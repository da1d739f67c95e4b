pub mod FaultsRead
mod ListedPackages
pub mod ReadGiven
mod ToldSo

pub mod Gathered
pub mod Results
pub mod Units

pub mod AskedBodies
pub mod LivePlaces
pub mod ToldWays

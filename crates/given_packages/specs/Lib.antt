-- What is known of the given packages before one is judged, and what a package that is judged by itself is told of
-- those that it imports.
pub mod Given
pub mod Neighbours
pub mod ToldNeighbours

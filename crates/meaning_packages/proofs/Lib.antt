pub mod FirstBodies
pub mod BodyPlaces

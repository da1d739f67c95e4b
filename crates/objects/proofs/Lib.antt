pub mod Literals
pub mod ObjectKinds
pub mod PlacedLefts
pub mod PointedTypes
pub mod RowsInOrder
pub mod SameButLefts
pub mod SeenSame

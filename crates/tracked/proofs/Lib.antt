pub mod Added
pub mod AllNoted
pub mod BoundAgain
pub mod FieldPlaces
pub mod FirstObtainings
pub mod MarksInOrder
pub mod Numbers

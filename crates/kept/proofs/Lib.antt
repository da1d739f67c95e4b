pub mod AssignedForms
pub mod Gatherings
pub mod Belonging
pub mod RowsTogether
pub mod MarksAsked
pub mod PlacesGiven

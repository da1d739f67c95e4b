-- What is to be trusted: what printing leaves on a writer, and the statuses.
pub mod Printing
pub mod Statuses

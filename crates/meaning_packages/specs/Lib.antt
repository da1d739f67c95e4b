-- What the paths of a body come to, and what is known of literals and of functions: to be trusted.
pub mod PathFaults
pub mod Credits
pub mod CallsFlags

-- To be trusted: which packages mention cancel functions with a cause.
pub mod CauseMentions

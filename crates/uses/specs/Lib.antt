-- What the contracts of this crate name: what it keeps, and what that stands for.
pub mod OutcomeViews
pub mod SentViews

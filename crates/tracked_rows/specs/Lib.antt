-- What the contracts of this crate name: what it keeps of rows and events, and what that stands for.
pub mod RowViews
pub mod EventViews

-- What the contracts of this crate name: what it keeps of locals, and what that stands for.
pub mod LocalViews

pub mod SamePackages
mod SameMentions

pub mod AddedParts
pub mod LiteralForms
pub mod DeclaredForms
pub mod GiftForms

pub mod LiteralMentions
pub mod StableOrder

pub mod FirstGiven
pub mod HandedLocals
pub mod KeptParts
pub mod NoKeeping

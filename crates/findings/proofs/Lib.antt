pub mod FoundParts
mod KeptFields

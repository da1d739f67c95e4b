pub mod AddedParts

-- For a reader of the contracts: what is kept of a package, which values and texts are those of it, and why a text is
-- none.
pub mod KeptUnits
pub mod VetxValues
pub mod VetxTexts
pub mod VetxLaws
-- What serves the proofs.
pub mod Parts

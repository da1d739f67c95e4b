-- For a reader of the contracts: how a text is cut into values, what is said of a package, which packages a text lists,
-- and why it lists none.
pub mod Pieces
pub mod ListedValues
pub mod ListTexts
-- Laws of these, which are proved.
pub mod CutExamples
pub mod ListLaws
-- What serves the code and the proofs.
pub mod StringSizes
pub mod ListRead

-- For a reader of the contracts: what is declared, which values and texts are those of it, and why a text is not.
pub mod DeclaredPackages
pub mod DeclaredValues
pub mod DeclaredTexts
-- What serves the proofs.
pub mod MembersRead
pub mod Parts

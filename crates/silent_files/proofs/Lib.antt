mod WordRules
mod NoMarks
mod WordParts
mod WordsSpelled
mod SoughtWords
pub mod NamedWords
pub mod SilentFiles
pub mod SilentPackages
pub mod SilentSignatures
pub mod DeclaredGivers
pub mod WalkedFiles
pub mod OneMore
pub mod SilentWords

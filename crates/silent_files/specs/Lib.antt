-- Names that are words of a text, and words that a text lacks: to be trusted are none of these.
pub mod NamedWords
pub mod WordsSought
-- Files in which nothing is to be found: to be trusted are none of these, since they only serve the program's haste.
pub mod SilentFiles
pub mod SilentPackages
pub mod SilentSignatures
pub mod DeclaredGivers
pub mod WalkedFiles
pub mod SilentWords
-- What is proved of them.
pub mod SilentLaws

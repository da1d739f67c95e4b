-- The pieces of a text, one after another.
pub mod Cuts
pub mod CutsShown
pub mod StringSizes
-- What is found in values: strings, lists of strings, and the members of a package.
pub mod StringsRead
mod ImportsRead
pub mod MembersRead
-- The packages of a text, piece by piece.
pub mod PiecesRead
-- A text has one answer.
pub mod OneList

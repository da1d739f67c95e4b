mod DeclaredImports
pub mod FirstJudged
mod FollowsSo
pub mod ImportedTables
mod ImportsNotYes
pub mod JudgedFiles
mod LeftOutDots
mod NeededImports
pub mod NothingSaid
mod ToldFields
pub mod ToldImports
mod WholeOnly

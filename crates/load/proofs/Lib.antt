mod FilesLoaded
mod FirstGiven
mod GivenLists
mod MeantTrees
pub mod OneOrder
mod ReadAhead
pub mod TreesOfTexts
mod Unparsed
pub mod ZippedLists

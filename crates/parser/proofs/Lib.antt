pub mod FileLists
pub mod Refusals
pub mod TextTrees
pub mod TokenWords
pub mod TypeParameters
pub mod WholeFiles

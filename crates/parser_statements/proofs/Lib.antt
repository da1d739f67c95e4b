pub mod Begins
pub mod LoopHeads
pub mod Nesting
pub mod ShallowCalls
pub mod ShallowVariables
pub mod SpecLists
pub mod SplitForms
pub mod SplitParameters

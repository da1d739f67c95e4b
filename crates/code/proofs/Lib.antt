pub mod Codes
pub mod CodeLists

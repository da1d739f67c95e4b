pub mod AddedBranches
pub mod SilentStatements

pub mod AddedCalls
mod AddedTables
mod Givers

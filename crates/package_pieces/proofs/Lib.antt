mod SharedJobs
pub mod Shared
pub mod Numbered
pub mod Kept
pub mod Built
pub mod Marked
pub mod Joined
mod ToldFiles

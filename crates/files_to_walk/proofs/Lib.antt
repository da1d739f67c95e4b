pub mod OwnGivers
mod SkippedFiles

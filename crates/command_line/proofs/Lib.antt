mod AskedBy
mod Given
mod LastSlashes
mod OwnWords
mod RunFolders
mod VetExamples
mod VetNumbers
mod WordsKept

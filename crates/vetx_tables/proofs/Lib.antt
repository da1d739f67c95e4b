-- Of what is kept of a table that table is made again.
pub mod KeptFunctions
pub mod KeptTables
pub mod SoundTables
-- What is made again, function by function.
mod AddedAgain
mod GiversAgain

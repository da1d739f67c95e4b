-- One turn of a list or an object, and their ends.
pub mod Turns
-- What the first token of a value says.
pub mod Started
-- What passing a list, an object or a value says.
pub mod Passed
-- Lists whose items are read one by one.
pub mod ListsRead
-- Objects by their keys, as members are put into them one by one.
pub mod ObjectKeys
-- Objects whose members are read one by one.
pub mod ObjectsRead
-- Members with one more put among them, and without it.
pub mod OneMore
-- What is made of an object's members, of which each is read by its key.
pub mod ItemsMade

-- Strings, lists of them, and strings under keys.
pub mod StringsRead
pub mod KeyedRead
pub mod TextKeys
-- The members of a unit, and the unit of them.
pub mod MembersRead
pub mod UnitsRead
-- Bytes have one answer.
pub mod OneUnit

-- What is to be trusted: what is read for a unit, what is written and kept of it, and what a call of the go command
-- writes.
pub mod Digests
pub mod UnitsRead
pub mod JudgedUnits
pub mod QuietUnits
pub mod UnitRuns
pub mod UnitLaws

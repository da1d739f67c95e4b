-- What is to be trusted: what the file of a unit tells, what is kept of the packages that the unit imports, and which
-- of it counts.
pub mod UnitsTold
pub mod ToldImports

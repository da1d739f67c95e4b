-- Runs of a program, and what a yes says of them: to be trusted.
pub mod Bodies
pub mod World
pub mod Moves
pub mod Steps
-- of which the promise says `IsWaitingFor`
pub mod Duties
pub mod Runs
pub mod Promise
pub mod PackageYes
-- What else a yes says.
pub mod YesBesideOthers
pub mod YesBelow
-- What shows that they aren't empty, and leave nothing out.
pub mod Laws
pub mod CallSteps
pub mod Doings
pub mod OccurrencePlaces
pub mod FilePlaces
pub mod NamePlaces
pub mod EntryPlaces
pub mod RunLists
pub mod Waits
pub mod Examples
pub mod GroupExamples
pub mod Returns
pub mod LoudReturns
pub mod GroupReturns
pub mod EditionReturns
pub mod FieldReturns
pub mod Writes
pub mod FieldWrites
pub mod ToldFields
-- What serves the proofs.
pub mod EventSources
pub mod BodyOffsets

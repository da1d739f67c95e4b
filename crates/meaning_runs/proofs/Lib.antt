mod Adequacy
mod Simulation
mod ExampleBodies
mod EachStep
mod NothingCalled
mod Contexts
mod FreeGoroutines
mod Places
mod Findings
mod Credited
mod BodyOffsetsWithin
pub mod BodyOffsetsTokens
mod AskedSites
mod SitesWithin
mod BodyOffsetsRules
mod BodyOffsetsParts
mod BodyOffsetsSpelled
pub mod BodyOffsets
mod QuietPromise
pub mod PackageYes
mod ExampleRuns
mod EditionExamples
mod Writes
mod EditionRuns
mod FieldRuns
mod FieldWrites
mod FieldsTold
pub mod EventSources
pub mod HandedEvents
pub mod HandedNames
pub mod SentEvents
pub mod MentionEvents
mod Bindings
pub mod OwnVariables
mod OwnBindings
pub mod Captured
mod BoundOnce
mod OwnNumbers
mod LeftSides
pub mod NamedBodies
mod NamedOutermost
mod FilePlaces
mod NameRules
mod NameParts
mod NamesSpelled
mod NamePlaces
mod MentionPlaces
mod FaultPlaces
pub mod EntryPlaces
pub mod KnownFlags
mod TrackedBindings
mod LeavingLists
mod LastReturns
pub mod OccurrencePlaces
pub mod PartSites
mod DeferredLiterals
mod FieldMarks
pub mod KeptEvents
mod ObjectEvents
pub mod MarkForms
mod EditionMarks
mod MarksBeside
pub mod GroupUses
mod StartedLiterals
mod GroupHomes
mod GroupVariables
mod GroupPaths
mod GroupDuties
mod RunLists
mod Waits
mod LoudBodies
mod LoudRuns
mod GivenValues
mod CallSteps
mod WhoStarts
mod Remembered
mod Holders
mod MadeGroups
mod CaredFor
mod WholeInvariant
mod StoreGrowth
mod HolderFrames
mod HolderBindings
mod GroupClasses
mod MadeGroupsStand
mod HolderSteps
mod CaredGoesOn
mod PassedVariables
mod CaredEvents
mod GoingCalls
mod HeldWorlds
mod GroupMakers
mod KeptValues
mod CaredBindings
mod CaredObjects
mod CaredCalls
mod CaredActs
mod Takings
mod CaredWorlds
mod Starts
mod QuietGroups
mod FirstEdition
mod GoneFunctions
mod QuietWithoutGo
mod BegunRoots
mod SeenTo
mod SettledReturns
mod WellUsedBodies
mod ExampleSteps
mod GroupBodies
mod GroupRuns
mod KeptPromises
mod KeptBodies
mod MadeGroupFrames
mod MadeGroupEvents
mod MadeGroupUses
mod MadeGroupArguments
mod MadeGroupBindings
mod MadeGroupCalls
mod MadeGroupActs
mod MadeGroupStarts
mod MadeGroupWorlds
mod Followed
mod Shown
mod ShownCells
mod ShownActs
mod ShownSteps
mod HiddenSteps
mod ShownRuns
mod SeenInAll
mod SeenStays

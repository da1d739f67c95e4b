-- What the contracts of this crate name: what nodes do, the sites and the graph of a body, the bodies of a file, the
-- lists of a code by way of its graph in memory, and tables of classes.
pub mod NodeEvents
pub mod BodySites
pub mod Bodies
pub mod MemoryLists
pub mod OwnGroups
pub mod Classified
-- Classes in memory, their numbers, sets of them as masks, and masks of all variables in words.
pub mod ClassViews
pub mod Bits
pub mod Masks
pub mod BitSteps
pub mod States
-- What the walks of a graph carry to each node, which classes of variables these are; flags for the classes, and what a
-- solution says.
pub mod Carried
pub mod AtNodes
pub mod Flags
pub mod Solutions
-- How the program goes over masks, keeps words and states, and what the trait asks of a solution.
pub mod MaskTests
pub mod StateWords
pub mod JoinedStates
pub mod Places
pub mod PendingGroups
pub mod FlagLaws

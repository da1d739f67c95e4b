-- Which tokens spell which tree, and which tree a text has: to be trusted.
pub mod Cursor
pub mod OperatorTokens
pub mod WellFormed
pub mod TypeParameters
pub mod Grammar
pub mod TreeOfText
-- What a body does, and the lists of events that it may go through: to be trusted.
pub mod Code
pub mod Lists
pub mod Jumps
pub mod StatementCode
-- Which declaration a name means: to be trusted.
pub mod Scopes
pub mod OuterBlocks
pub mod TwoFunctions
pub mod Declarations
-- What each body does to its tracked variables, and which uses the rules don't allow: to be trusted.
pub mod Mentions
pub mod FunctionFacts
pub mod Tracked
pub mod Objects
pub mod Uses
pub mod Kept
pub mod BodyEvents
pub mod KeepingFields
-- What is known of the variables after a list of events: to be trusted.
pub mod Classes
-- What is proved of them.
pub mod Laws
pub mod UseLaws
pub mod KeptLaws
pub mod Conditions
-- For a reader of the grammar: texts and trees to try it on.
pub mod TreeExamples
-- For a reader of the rules for names, and of what statements do: functions and statements to try them on.
pub mod NameExamples
pub mod StatementExamples
-- For a reader of the rules for fields: functions to try them on.
pub mod KeptExamples
pub mod ObjectExamples

-- For a reader of the contracts: what the program keeps of credits, and when a variable is settled, by the places of
-- variables. The rules are those of `meaning_packages/specs/Credits.antt`.
pub mod CreditViews
pub mod ReliedOn
pub mod SettledVariables
pub mod BodyPaths
-- For a reader of the contracts: how the credits of a file are found, and which classes arrive at the nodes of a body.
-- The rules are those of `meaning_packages/specs/Credits.antt`.
pub mod FoundCredits
pub mod PathNodes

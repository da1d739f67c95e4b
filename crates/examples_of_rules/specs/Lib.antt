-- How the trees of the examples are written.
pub mod Trees
-- The examples, from texts to what is known of variables.
pub mod TokenExamples
pub mod ScopeExamples
pub mod MarkExamples
pub mod CodeExamples
pub mod CancelExamples
pub mod GroupExamples
pub mod ConditionExamples
pub mod SignatureExamples
pub mod ClassExamples

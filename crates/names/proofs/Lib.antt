mod FirstLocals
mod InnermostOf
mod KeptLocals
mod LocalOrder
mod LocalRuns
pub mod Adding
pub mod FirstAnswers
pub mod ImportNames
pub mod LevelNames
pub mod PackageAnswers
pub mod SameInnermost
pub mod SecondFunctions
pub mod UseChains

pub mod UnitImports
pub mod UnitReports
pub mod UnitTexts
pub mod UnitFaults
pub mod UnitTold
pub mod UnitNames
pub mod UnitLaws
pub mod UnitYes
pub mod UnitSilence
mod OneUnit

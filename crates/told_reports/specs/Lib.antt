-- For a reader of the contracts: what is told of packages that were judged, and of a unit.
pub mod Reports
pub mod UnitTexts

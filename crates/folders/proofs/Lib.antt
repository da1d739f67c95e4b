pub mod HandedOn
pub mod ReadFaults
mod BaseNames
mod Cuts
mod Fronts
mod GoFiles
mod ListedFiles
mod MadeNames
mod Members
mod ModuleLines
mod PickedNames
mod UnitExamples
mod Words

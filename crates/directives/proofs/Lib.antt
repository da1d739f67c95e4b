pub mod Cuts
pub mod Places
pub mod Lines
pub mod Standing
pub mod UnitExamples

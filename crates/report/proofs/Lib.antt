pub mod Members
mod Once
pub mod DiagnosticOrder
mod NameOrder
pub mod Fronts

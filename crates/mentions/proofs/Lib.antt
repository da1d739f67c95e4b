pub mod Adding
pub mod Naming
pub mod NilTests
pub mod SingleLists
pub mod FieldForms

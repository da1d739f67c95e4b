pub mod ClearedAt
pub mod FieldLefts
pub mod KeepingFields
pub mod LeftSides
pub mod OnlyValues
pub mod ValueForms

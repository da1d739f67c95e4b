pub mod FunctionsRead
pub mod DeclaredLaws
pub mod PackagesRead

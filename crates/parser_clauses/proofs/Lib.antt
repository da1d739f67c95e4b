pub mod SimpleParts
pub mod ClauseLists
pub mod Communications
pub mod TypeGuards

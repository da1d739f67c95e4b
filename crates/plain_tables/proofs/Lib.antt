pub mod PlainNames
pub mod PlainTables
pub mod RisingLists
pub mod FactOrder

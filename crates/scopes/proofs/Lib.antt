pub mod Adding
pub mod LastTypes
pub mod ReceiverNames

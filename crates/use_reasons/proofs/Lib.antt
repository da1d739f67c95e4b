pub mod FirstReasons
pub mod ToldSoFar

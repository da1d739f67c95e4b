pub mod SarifPieces
pub mod FixPieces
pub mod CodeRules

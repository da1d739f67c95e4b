-- For a reader of the contracts: the text of a report in SARIF.
pub mod SarifText
pub mod SarifCodes
pub mod RuleHelp
pub mod CodePoints
pub mod Fingerprints
-- What serves the proofs.
pub mod Pieces

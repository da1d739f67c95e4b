-- Why uses stand in a report.
pub mod UseReasons
-- What only serves proofs.
pub mod ReasonViews

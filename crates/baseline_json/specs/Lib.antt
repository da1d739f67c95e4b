-- For a reader of the contracts: what a report says, which texts are those of one, and why some are none.
pub mod BaselineValues
pub mod BaselineTexts
-- Laws of these, which are proved.
pub mod BaselineReports
pub mod BaselineLaws
-- What serves the proofs.
pub mod BaselineRead

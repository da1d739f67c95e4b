pub mod Reading
pub mod Reader
pub mod Claims
-- For a reader of the repository: texts and trees that are found by computing.
pub mod ReadExamples

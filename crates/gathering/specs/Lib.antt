-- For a reader of the laws: what a result of one package is, what is said of results, and of packages that are judged
-- by themselves.
pub mod Results
pub mod ResultLaws
pub mod Units

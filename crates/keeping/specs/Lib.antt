-- For a reader of the contracts: by what the files of a package are looked at, which of them may be passed over, and
-- that those which may be skipped are such.
pub mod Keeping
pub mod PuttingFiles
-- What serves the proofs: what each mark says of fields, and files of which the marks alone say so.
pub mod Notes
pub mod PlainFiles
pub mod ToldFiles

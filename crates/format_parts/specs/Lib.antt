-- For a reader of the contracts: what is told of findings, their fixes, where their names end, names of files as URIs,
-- and values of JSON.
pub mod Told
pub mod Fixes
pub mod NameEnds
pub mod FileUris
pub mod Objects
-- What serves the proofs.
pub mod Pieces

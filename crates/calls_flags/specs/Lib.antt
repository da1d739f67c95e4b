-- For a reader of the contracts: the files of a package that was told of, their bodies, and what is known of functions.
-- The rules are those of `meaning_packages/specs/CallsFlags.antt`.
pub mod ToldFiles
pub mod FilesBodies
pub mod KnownCalls
pub mod Claims
-- What the files of a package hand on to packages that they import. None of it is to be trusted, since it is what
-- `IsUsed` of `meaning_reports` says.
pub mod HandedOn
pub mod UsedPackages

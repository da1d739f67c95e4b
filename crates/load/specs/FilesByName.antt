-- The files of a package in the order of their names, byte by byte. Files of one name, which no folder has, keep the
-- order in which they are given. So given files have one such order (`by_name_is_one`).
use Rattle.std.specs.Prelude.{Bool, List, IsPermutation, string_cmp}
use Rattle.std.specs.List.Sorted.{IsSortedBy, IsStableBy}
use Rattle.std.specs.Ordering.{is_lt}
use Rattle.lexer.specs.declared.source.Source.{Source}

-- the file's name comes before the other's
abbrev pub comes_before : Source → Source → Bool
comes_before file other = is_lt (string_cmp file.name other.name)

-- these are the given files in that order
pub record AreByName (given ordered : List Source) : Type 0 where
  pub same : IsPermutation given ordered
  pub sorted : IsSortedBy comes_before ordered
  pub stable : IsStableBy comes_before given ordered

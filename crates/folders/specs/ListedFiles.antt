-- Files that are given by their names, as a list of packages has them, and how a report names them.
use Rattle.std.specs.Prelude.{◌↔◌, ◌==◌, ◌&&◌, ℕ, Bool, not, List, Option, Some, None, option_and_then, if◌then◌else◌, nat_eq, codes, All, Contains, drop, length, map, string_bytes}
use Rattle.std.specs.Cmp.Lexicographic.{slice_cmp}
use Rattle.std.specs.List.{starts_with}
use Rattle.std.specs.List.Sorted.{IsStrictlySortedBy}
use Rattle.std.specs.Ordering.{nat_cmp}
use Rattle.lexer.specs.declared.source.Source.{Source}
use Rattle.folders.specs.GoFiles.{slash_after, source_name}
use Rattle.folders.specs.Names.{IsPrintable}

-- an absolute name stands as it is, and another is one in the folder
abbrev pub given_name : List ℕ → List ℕ → List ℕ
given_name folder name = if starts_with nat_eq name (codes "/") then name else source_name folder name

-- what stands in a name behind these bytes, where it begins with them
abbrev pub behind : List ℕ → List ℕ → Option (List ℕ)
behind front name = if starts_with nat_eq name front then Some (drop (length front) name) else None

-- what stands in it behind the name of a folder and a slash
abbrev pub inside : List ℕ → List ℕ → Option (List ℕ)
inside folder name = option_and_then (behind (slash_after folder)) (behind folder name)

-- a file is found from a folder on by this name: it isn't empty, and not absolute
abbrev pub is_relative : List ℕ → Bool
is_relative name = not (length name == 0) && not (starts_with nat_eq name (codes "/"))

-- what is left of the name, where a file is found by that, and else the name
abbrev pub left_of : List ℕ → Option (List ℕ) → List ℕ
left_of name None = name
left_of name (Some rest) = if is_relative rest then rest else name

-- what lies below a folder is named from there on
abbrev pub below : List ℕ → List ℕ → List ℕ
below folder name = left_of name (inside folder name)

-- the name of a file in a report, by the current folder, where the system tells which that is
abbrev pub shown_name : Option (List ℕ) → List ℕ → List ℕ → List ℕ
shown_name None folder name = given_name folder name
shown_name (Some here) folder name = below here (given_name folder name)

abbrev pub names_of : List Source → List (List ℕ)
names_of sources = map (λ s. string_bytes s.name) sources

-- The sources are the files of these names, all of them, each once. Their names ascend, byte by byte, and a report can
-- print them.
pub record AreFilesOf (names : List (List ℕ)) (sources : List Source) : Type 0 where
  pub same : (name : List ℕ) → Contains (names_of sources) name ↔ Contains names name
  pub ascend : IsStrictlySortedBy (slice_cmp nat_cmp) (names_of sources)
  pub printable : All IsPrintable (names_of sources)

-- Which entries of a folder are Go files of the package, and how a report names them.
-- As with the go command, test files are not part of the package (`go help test`). Build constraints are not read.
use Rattle.std.specs.Prelude.{◌≡◌, ◌⊎◌, ℕ, Bool, true, not, ◌&&◌, List, [], ◌++◌, map, if◌then◌else◌, nat_eq, codes, All, String, string_bytes, string_cmp}
use Rattle.std.specs.List.{ends_with}
use Rattle.std.specs.List.Sorted.{IsStrictlySortedBy}
use Rattle.lexer.specs.declared.source.Source.{Source}
use Rattle.folders.specs.Names.{IsPrintable}

-- the name ends in `.go` and not in `_test.go`
abbrev pub is_go_file : List ℕ → Bool
is_go_file name = ends_with nat_eq name (codes ".go") && not (ends_with nat_eq name (codes "_test.go"))

-- a slash, unless the folder's name ends in one
abbrev pub slash_after : List ℕ → List ℕ
slash_after folder = if ends_with nat_eq folder (codes "/") then [] else codes "/"

-- a file as a report names it: the folder, the slash, and the file's own name
abbrev pub source_name : List ℕ → List ℕ → List ℕ
source_name folder name = folder ++ (slash_after folder ++ name)

-- the folder, or a Go file of it, as a report names it
abbrev pub IsOfFolder : List ℕ → List ℕ → Type 0
IsOfFolder folder name =
    (name ≡ folder) ⊎ ((own : List ℕ) × (is_go_file own ≡ true) × (name ≡ source_name folder own))

-- the name is that of a Go file, and a report can print it
abbrev pub IsGoName : List ℕ → Type 0
IsGoName name = (is_go_file name ≡ true) × IsPrintable name

-- each of the names is so
abbrev pub AreGoNames : {A : Type 0} → List (String A) → Type 0
AreGoNames names = All (λ name. IsGoName (string_bytes name)) names

-- the source is a Go file of the folder, by its name, and a report can print that name
pub record IsSourceOf (folder : List ℕ) (source : Source) : Type 0 where
  pub name : List ℕ
  pub go : is_go_file name ≡ true
  pub named : string_bytes source.name ≡ source_name folder name
  pub printable : IsPrintable (string_bytes source.name)

-- Each of the sources is so, and their names ascend, byte by byte. So no file is among them twice.
pub record AreSourcesOf (folder : List ℕ) (sources : List Source) : Type 0 where
  pub each : All (IsSourceOf folder) sources
  pub ascend : IsStrictlySortedBy string_cmp (map (λ s. s.name) sources)

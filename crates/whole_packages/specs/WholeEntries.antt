-- What is to be said of a package as a whole, as the program goes over its files.
use Rattle.std.specs.Prelude.{ℕ, ◌≡◌, ◌↔◌, ◌+◌, Bool, true, false, if◌then◌else◌, List, [], ◌∷◌, ◌++◌, flat_map, map, Contains, Option, Some, None, slice_get, codes}
use Rattle.std.specs.Str.{bytes_eq}
use Rattle.tree.specs.Syntax.{Identifier, ImportSpec}
use Rattle.tree.specs.View.{file_syntax, identifier_syntax}
use Rattle.meaning.specs.Grammar.{dot_text}
use Rattle.meaning.specs.OuterBlocks.{has_any}
use Rattle.meaning.specs.TwoFunctions.{FunctionName, second_function}
use Rattle.report.specs.declared.codes.DiagnosticCode.{DiagnosticCode}
use Rattle.report.specs.declared.codes.DiagnosticCode.TheVariants.{Unreadable, LeftOut, ImportHasNoRank, TwoFunctions}
use Rattle.report.specs.Entries.{Entry}
use Rattle.imports.specs.Ranks.{HasRank}
use Rattle.imports.specs.Settling.{place_from}
use Rattle.meaning_reports.specs.Loaded.{LoadedPackage, NumberedTree, imported_paths, imports_of, import_list}
use Rattle.meaning_reports.specs.DotImports.{dot_entry}
use Rattle.meaning_reports.specs.WholeFaults.{import_entry}
use Rattle.whole_packages.specs.declared.loaded_package.Reading.{Reading as KeptReading}
use Rattle.whole_packages.specs.declared.loaded_package.Reading.TheVariants.{Tree, NoTokens, NoTree}
use Rattle.whole_packages.specs.declared.loaded_package.LoadedPackage.{LoadedPackage as KeptPackage}
use Rattle.whole_packages.specs.declared.whole.Second.{Second}
use Rattle.whole_packages.specs.LoadedViews.{kept_trees}

-- Files without a tree

abbrev pub failure : ℕ → ℕ → DiagnosticCode → List Entry
failure file at code = record { file = file; offset = at; code = code; name = codes "-" } ∷ []

abbrev pub failure_entries : ℕ → KeptReading → List Entry
failure_entries file Tree = []
failure_entries file (NoTokens at why) = failure file at (Unreadable why)
failure_entries file (NoTree at why) = failure file at (LeftOut why)

abbrev pub failures_from : ℕ → List KeptReading → List Entry
failures_from n [] = []
failures_from n (r ∷ rs) = failure_entries n r ++ failures_from (n + 1) rs

-- Two functions of one name

abbrev pub second_view : Second → FunctionName
second_view s = record { file = s.tree; name = identifier_syntax s.name.now }

abbrev pub second_at : Option NumberedTree → FunctionName → List Entry
second_at None f = []
second_at (Some t) f =
    record { file = t.file; offset = f.name.span.start; code = TwoFunctions; name = f.name.text } ∷ []

abbrev pub second_entries : List NumberedTree → Option FunctionName → List Entry
second_entries trees None = []
second_entries trees (Some f) = second_at (slice_get trees f.file) f

-- Imports

abbrev pub is_set : Option Bool → Bool
is_set None = false
is_set (Some mark) = mark

abbrev pub is_set_at : Option ℕ → List Bool → Bool
is_set_at None marks = false
is_set_at (Some place) marks = is_set (slice_get marks place)

-- the package of that path is one of the marked
abbrev pub is_marked : (List ℕ → Option ℕ) → List Bool → List ℕ → Bool
is_marked places marks path = is_set_at (places path) marks

abbrev pub spec_entries : (List ℕ → Bool) → DiagnosticCode → ℕ → ImportSpec → List Entry
spec_entries is_one code file s = if is_one s.path then import_entry file s code ∷ [] else []

abbrev pub tree_entries : (List ℕ → Bool) → DiagnosticCode → NumberedTree → List Entry
tree_entries is_one code t = flat_map (spec_entries is_one code t.file) (imports_of t.tree)

-- Imports with a dot

abbrev pub dot_if : Bool → ℕ → Identifier → List Entry
dot_if says file dot = if says then dot_entry file dot ∷ [] else []

-- the name of such an import, if a name of its package says something
abbrev pub dot_entries : Bool → ℕ → Option Identifier → List Entry
dot_entries says file None = []
dot_entries says file (Some n) = if bytes_eq n.text dot_text then dot_if says file n else []

abbrev pub spec_dots : (List ℕ → Bool) → ℕ → ImportSpec → List Entry
spec_dots say file s = dot_entries (say s.path) file s.name

abbrev pub tree_dots : (List ℕ → Bool) → NumberedTree → List Entry
tree_dots say t = flat_map (spec_dots say t.file) (imports_of t.tree)

-- All of a package

-- the places of the given packages, which of these have no rank, and the second function of a name
abbrev pub whole_entries : (List ℕ → Option ℕ) → List Bool → Option FunctionName → KeptPackage → List Entry
whole_entries places marks second k =
    (failures_from 0 k.readings.items ++ second_entries (kept_trees k) second)
    ++ flat_map (tree_entries (is_marked places marks) ImportHasNoRank) (kept_trees k)

-- it has a fault as a whole
abbrev pub is_faulty : (List ℕ → Option ℕ) → List Bool → KeptPackage → Bool
is_faulty places marks k = has_any (whole_entries places marks (second_function (map file_syntax k.trees.items)) k)

-- Ranks

-- the path is that of a given package that has no rank
pub record IsUnranked (ps : List LoadedPackage) (path : List ℕ) : Type 0 where
  pub place : ℕ
  pub is_place : place_from path (import_list ps) 0 ≡ Some place
  pub no_rank : HasRank (import_list ps) place → ⊥

-- of the paths that the package imports those are picked that are of such packages
abbrev pub PicksUnranked : List LoadedPackage → LoadedPackage → (List ℕ → Bool) → Type 0
PicksUnranked ps p picked = (path : List ℕ)
    → Contains (imported_paths p) path
    → (picked path ≡ true) ↔ IsUnranked ps path

-- Which packages mention cancel functions with a cause: their type, or one of the makers of `context` that came with
-- them. Version 1 of certificates knows of none, so that it can't be read for such packages. Where two functions of a
-- package have one name, the first of them is meant.
-- (The documentation of `context`.)
use Rattle.std.specs.Prelude.{ℕ, ◌+◌, Bool, false, ◌||◌, if◌then◌else◌, List, [], ◌∷◌, map, Option, Some, None, codes, string_bytes}
use Rattle.std.specs.List.{list_any}
use Rattle.meaning.specs.Declarations.{declaration_of_use}
use Rattle.meaning.specs.FunctionFacts.{Meanings, context_path, is_of}
use Rattle.meaning.specs.Mentions.{Named, Mark, mentions, of_fields, runs_literal, returns, opens, closes, marks_by, file_marks}
use Rattle.meaning.specs.OuterBlocks.{PackageNames}
use Rattle.meaning_reports.specs.Loaded.{LoadedPackage, package_names, trees_of}
use Rattle.tree.specs.declared.edition.Edition.TheVariants.{First}
use Rattle.tree.specs.Syntax.{SourceFile}
use Rattle.tree.specs.View.{file_syntax}
use Rattle.whole_packages.specs.declared.loaded_package.LoadedPackage.{LoadedPackage as KeptPackage}

abbrev pub is_cause_name : Meanings → Named → Bool
is_cause_name means n =
    is_of means context_path (codes "CancelCauseFunc") n
    || (is_of means context_path (codes "WithCancelCause") n
    || (is_of means context_path (codes "WithTimeoutCause") n
    || is_of means context_path (codes "WithDeadlineCause") n))

abbrev pub mark_mentions : Meanings → Mark → Bool
mark_mentions means (mentions m) = is_cause_name means m.named
mark_mentions means (of_fields site m) = false
mark_mentions means (runs_literal moment site at) = false
mark_mentions means (returns at es) = false
mark_mentions means (opens b) = false
mark_mentions means closes = false

-- what conditions find out names a variable alone, and fields are no matter
unfoldable pub file_mentions : Meanings → SourceFile → Bool
file_mentions means tree = list_any (mark_mentions means) (marks_by First false (file_marks tree))

-- one of these files does, where the first has the number n
abbrev pub files_mention : (ℕ → Meanings) → ℕ → List SourceFile → Bool
files_mention means n [] = false
files_mention means n (tree ∷ trees) = file_mentions (means n) tree || files_mention means (n + 1) trees

abbrev pub trees_mention : PackageNames → List SourceFile → Bool
trees_mention names trees = files_mention (declaration_of_use trees names) 0 trees

-- the path of the first of these packages that does, where the given packages have these names
abbrev pub first_among : PackageNames → List LoadedPackage → Option (List ℕ)
first_among names [] = None
first_among names (p ∷ ps) = if trees_mention names (trees_of p) then Some p.path else first_among names ps

abbrev pub first_with_causes : List LoadedPackage → Option (List ℕ)
first_with_causes ps = first_among (package_names ps) ps

-- What serves the proof: the same of packages in memory

abbrev pub kept_trees : KeptPackage → List SourceFile
kept_trees k = map file_syntax k.trees.items

abbrev pub first_kept : PackageNames → List KeptPackage → Option (List ℕ)
first_kept names [] = None
first_kept names (k ∷ ks) =
    if trees_mention names (kept_trees k) then Some (string_bytes k.path) else first_kept names ks

-- Which files of a package nothing need be told of: files without anything to find, by their imports, by the signatures
-- of the package's functions and of those that they import, and by their names. And what may stand in their place: any
-- file in which nothing is to be found, as one without marks.
-- (This tool's rules.)
use Rattle.std.specs.Prelude.{ℕ, ◌≡◌, Bool, false, List, [], Option, Some, slice_get, Contains}
use Rattle.std.specs.List.{list_any}
use Rattle.std.specs.Str.{bytes_eq}
use Rattle.tree.specs.Syntax.{ImportSpec, SourceFile}
use Rattle.meaning.specs.OuterBlocks.{is_first_path}
use Rattle.meaning.specs.Mentions.{file_marks}
use Rattle.meaning.specs.FunctionFacts.{FunctionFacts, errgroup_path}
use Rattle.meaning_packages.specs.CallsFlags.{FileWithCredits}
use Rattle.meaning_reports.specs.Loaded.{LoadedPackage, Tables, trees_of, imports_of, signatures_of, imported_signatures, known_in}
use Rattle.silent_files.specs.SilentFiles.{mark_tells, names_recover, IsSilent}

-- it imports `context` or `errgroup`
abbrev pub imports_first : SourceFile → Bool
imports_first tree = list_any (λ s. is_first_path s.path) (imports_of tree)

-- no function gives a cancel function, by these facts
abbrev pub GiveNone : (List ℕ → Option FunctionFacts) → Type 0
GiveNone functions = (name : List ℕ) (f : FunctionFacts) → functions name ≡ Some f → f.gives ≡ []

-- it imports `errgroup`
abbrev pub imports_group : SourceFile → Bool
imports_group tree = list_any (λ s. bytes_eq s.path errgroup_path) (imports_of tree)

-- it is the file of that number of the package, and no function that it could name gives a cancel function
pub record NamesNoGiver (ps : List LoadedPackage) (tables : Tables) (p : LoadedPackage) (number : ℕ) (tree : SourceFile)
    : Type 0 where
  pub is_tree : slice_get (trees_of p) number ≡ Some tree
  pub own_give_none : GiveNone (signatures_of ps p)
  pub imported_give_none : (spec : ImportSpec) → Contains (imports_of tree) spec
      → GiveNone (imported_signatures p tables spec.path)

-- nothing is to be found in it: it names no maker, no type of cancel functions, no giver and no `recover`
pub record MayBeSkipped (ps : List LoadedPackage) (tables : Tables) (p : LoadedPackage) (number : ℕ) (tree : SourceFile)
    : Type 0 where
  pub names_no_giver : NamesNoGiver ps tables p number tree
  pub no_group_import : imports_group tree ≡ false
  pub none_tells : list_any (mark_tells (known_in ps tables p number)) (file_marks tree) ≡ false
  pub no_recover : list_any names_recover (file_marks tree) ≡ false

-- one file stands for another: it is that file, or nothing is to be found in either
pub data StandsFor : FileWithCredits → FileWithCredits → Type 0 where
  itself : {f : FileWithCredits} → StandsFor f f
  silent : {f g : FileWithCredits} → IsSilent f.seen → IsSilent g.seen → StandsFor f g

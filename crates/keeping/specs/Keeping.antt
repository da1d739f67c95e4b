-- Which fields of a package keep, by what is said of fields in its files. Where the files that are walked put nothing
-- into fields, no field keeps, and the others need not be looked at: in a file that isn't walked nothing is put.
-- (This tool's rules.)
use Rattle.std.specs.Prelude.{ℕ, ◌+◌, ◌≡◌, Bool, true, false, if◌then◌else◌, List, [], ◌∷◌, ◌++◌, None, ⊤}
use Rattle.std.specs.List.{list_any}
use Rattle.tree.specs.Syntax.{SourceFile}
use Rattle.facts.specs.FactViews.{facts_by_name, facts_by_path}
use Rattle.names.specs.Answers.{declared_at}
use Rattle.meaning.specs.Tracked.{each_field, Known}
use Rattle.meaning.specs.Uses.{Seen}
use Rattle.meaning.specs.BodyEvents.{seen_file}
use Rattle.meaning.specs.KeepingFields.{puts}
use Rattle.tracked_rows.specs.declared.known.Known.{Known as KeptKnown}
use Rattle.keeping.specs.Notes.{notes_in}
use Rattle.noted_fields.specs.NotedFields.{Note}

-- what is known in the file of that number, where each field is taken for one that keeps
abbrev pub each_known : KeptKnown → ℕ → Known
each_known known number = record {
  edition = known.edition;
  means = declared_at known.names.now number;
  fields = each_field;
  object_lefts = λ at. None;
  functions = facts_by_name known.table.now;
  imported = facts_by_path known.imported.now;
}

-- Files that are passed over

-- no mark of the file puts a cancel function into a field
abbrev pub PutsNothing : Seen → Type 0
PutsNothing seen = (f : List ℕ) → list_any (λ p. puts seen f p.bodies p.mark) seen.marks ≡ false

-- so is it in each of these files that isn't walked, of which the first has that number
abbrev pub PutNothing : (ℕ → Bool) → (ℕ → Known) → ℕ → List SourceFile → Type 0
PutNothing walked known n [] = ⊤
PutNothing walked known n (tree ∷ trees) =
    (walked n ≡ false → PutsNothing (seen_file (known n) tree)) × PutNothing walked known (n + 1) trees

-- What is said in a package

abbrev pub notes_if : Bool → Known → SourceFile → List Note
notes_if true known tree = notes_in (seen_file known tree)
notes_if false known tree = []

-- in those of these files that are walked
abbrev pub notes_by : (ℕ → Bool) → (ℕ → Known) → ℕ → List SourceFile → List Note
notes_by walked known n [] = []
notes_by walked known n (tree ∷ trees) = notes_if (walked n) (known n) tree ++ notes_by walked known (n + 1) trees

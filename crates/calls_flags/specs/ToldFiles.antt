-- What the program keeps of what was told of the files of a package, and what it stands for.
use Rattle.std.specs.Prelude.{ℕ, ◌≡◌, List, [], length, map, Option, None, Some, slice_get}
use Rattle.meaning.specs.BodyEvents.{Variable, bodies_of, variables_of}
use Rattle.meaning.specs.Tracked.{Known}
use Rattle.meaning.specs.Uses.{Seen}
use Rattle.events.specs.ToldViews.{TellsFile}
use Rattle.events.specs.VariableViews.{ordered_in}
use Rattle.events.specs.declared.found.Variables.{Variables}
use Rattle.facts.specs.FactViews.{facts_by_name, facts_by_path}
use Rattle.names.specs.Answers.{declared_at}
use Rattle.silent_files.specs.WalkedFiles.{is_walked, seen_some}
use Rattle.tracked_rows.specs.RowViews.{fields_view}
use Rattle.tree.specs.View.{file_syntax}
use Rattle.calls_flags.specs.declared.told_file.Telling.{Telling}
use Rattle.calls_flags.specs.declared.told_file.ToldFile.{ToldFile}

-- what is known in the file of that number before its left sides are looked at: the edition, what its names mean, which
-- fields keep, and the facts of functions
abbrev pub known_for : Telling → ℕ → Known
known_for telling number = record {
  edition = telling.edition;
  means = declared_at telling.names.now number;
  fields = fields_view telling.fields;
  object_lefts = λ at. None;
  functions = facts_by_name telling.table.now;
  imported = facts_by_path telling.imported.now;
}

-- the files as they are seen by that, or as if they had no marks, where they aren't walked
abbrev pub seen_by : Telling → List Seen
seen_by telling = seen_some (is_walked telling.walked.now) (known_for telling) 0 (map file_syntax telling.files.now)

-- the variables of the body at that place: none, where none were sought
abbrev pub ordered_if : Option Variables → ℕ → List Variable
ordered_if None body = []
ordered_if (Some found) body = ordered_in found body

-- what is kept was told of the file that was seen so
pub record TellsSeen (seen : Seen) (kept : ToldFile) : Type 0 where
  pub tells : TellsFile seen kept.told
  pub are_variables : (body : ℕ) → ordered_if kept.variables body ≡ variables_of seen body
  -- where none were sought, no body opens
  pub no_body : kept.variables ≡ None → bodies_of seen ≡ []

-- the same for all files of a package
pub record TellAllSeen (seens : List Seen) (kept : List ToldFile) : Type 0 where
  pub are_as_many : length seens ≡ length kept
  pub each : (i : ℕ) (seen : Seen) (k : ToldFile)
      → slice_get seens i ≡ Some seen
      → slice_get kept i ≡ Some k
      → TellsSeen seen k

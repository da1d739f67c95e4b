-- Which fields a verdict tells of: each into which a body obtains, and each in which it keeps, or gives to others, what
-- it obtained. So what a frame doesn't owe since it gave it away is in a field that the verdict of its package names.
use Rattle.std.specs.Prelude.{ℕ, ◌≡◌, true, List, Contains}
use Rattle.meaning.specs.Code.{Occurrence}
use Rattle.meaning.specs.Lists.{Reaches}
use Rattle.meaning.specs.Uses.{VariableAt, Callee, Event, obtain_kept, keep, give_field, Seen}
use Rattle.meaning.specs.KeepingFields.{is_obtained_in, fields_kept}
use Rattle.meaning_runs.specs.Bodies.{Body, code_of}

-- the event puts into a field what a row obtained
pub data PutsObtained (file : Seen) : Event → Type 0 where
  obtains_into : {u : VariableAt} {f : Callee} {k x : ℕ} → PutsObtained file (obtain_kept u f k x)
  keeps : {v x : ℕ} → is_obtained_in file v ≡ true → PutsObtained file (keep v x)
  gives : {v : ℕ} → is_obtained_in file v ≡ true → PutsObtained file (give_field v)

abbrev pub FieldsAreTold : Type 0
FieldsAreTold = (b : Body) (t : List (Occurrence Event)) (o : Occurrence Event)
    → Reaches (code_of b) t o
    → PutsObtained b.file o.event
    → (field : List ℕ) × Contains (fields_kept b.file) field

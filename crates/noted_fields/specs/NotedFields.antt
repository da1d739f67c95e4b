-- What is said of the fields of a name, which names keep by that, and which may be fields'.
-- (This tool's rules.)
use Rattle.std.specs.Prelude.{ℕ, Bool, true, false, not, ◌&&◌, if◌then◌else◌, List, [], ◌∷◌, flat_map}
use Rattle.std.specs.List.{list_any}
use Rattle.std.specs.Str.{bytes_eq}
use Rattle.noted_fields.specs.declared.note.Note.{Note as KeptNote}
use Rattle.noted_fields.specs.declared.note.Note.TheVariants.{Called, Put, Spoiled, Filled, Method}

-- of the fields of that name
pub data Note : Type 0 where
  is_called : List ℕ → Note
  is_put : List ℕ → Note
  is_spoiled : List ℕ → Note
  is_filled : List ℕ → Note
  is_method : List ℕ → Note

abbrev pub note_view : KeptNote → Note
note_view (Called f) = is_called f.now
note_view (Put f) = is_put f.now
note_view (Spoiled f) = is_spoiled f.now
note_view (Filled f) = is_filled f.now
note_view (Method f) = is_method f.now

abbrev pub spoils_it : List ℕ → Note → Bool
spoils_it f (is_called g) = false
spoils_it f (is_put g) = false
spoils_it f (is_spoiled g) = bytes_eq g f
spoils_it f (is_filled g) = false
spoils_it f (is_method g) = false

abbrev pub is_of_put : Note → Bool
is_of_put (is_called f) = false
is_of_put (is_put f) = true
is_of_put (is_spoiled f) = false
is_of_put (is_filled f) = false
is_of_put (is_method f) = false

abbrev pub some_put : List Note → Bool
some_put = list_any is_of_put

abbrev pub put_name : Note → List (List ℕ)
put_name (is_called f) = []
put_name (is_put f) = f ∷ []
put_name (is_spoiled f) = []
put_name (is_filled f) = []
put_name (is_method f) = []

abbrev pub put_by : List Note → List (List ℕ)
put_by = flat_map put_name

abbrev pub is_among : List (List ℕ) → List ℕ → Bool
is_among names f = list_any (λ g. bytes_eq g f) names

-- one of these names, and nothing else is put there
abbrev pub keeps : List (List ℕ) → List Note → List ℕ → Bool
keeps put notes f = is_among put f && not (list_any (spoils_it f) notes)

abbrev pub kept_there : List (List ℕ) → List Note → Note → List (List ℕ)
kept_there put notes (is_called f) = if keeps put notes f then f ∷ [] else []
kept_there put notes (is_put f) = []
kept_there put notes (is_spoiled f) = []
kept_there put notes (is_filled f) = []
kept_there put notes (is_method f) = []

abbrev pub kept_by : List Note → List (List ℕ)
kept_by notes = flat_map (kept_there (put_by notes) notes) notes

abbrev pub method_name : Note → List (List ℕ)
method_name (is_called f) = []
method_name (is_put f) = []
method_name (is_spoiled f) = []
method_name (is_filled f) = []
method_name (is_method f) = f ∷ []

abbrev pub methods_by : List Note → List (List ℕ)
methods_by = flat_map method_name

abbrev pub filled_there : List (List ℕ) → Note → List (List ℕ)
filled_there methods (is_called f) = []
filled_there methods (is_put f) = []
filled_there methods (is_spoiled f) = []
filled_there methods (is_filled f) = if is_among methods f then [] else f ∷ []
filled_there methods (is_method f) = []

-- the names that may be fields'
abbrev pub filled_by : List Note → List (List ℕ)
filled_by notes = flat_map (filled_there (methods_by notes)) notes

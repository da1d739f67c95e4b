-- What is told of a way to a fault, read off the nodes of the body's graph through which it goes: where the variable
-- was bound last, where work of its group begins, and each place from there at which the way could have gone another
-- way, by the word of the branch that it takes. Steps that do not branch are not told. A turn of a loop could end at
-- its header alone, so each turn is told once.
use Rattle.std.specs.Prelude.{ℕ, ◌==◌, not, ◌&&◌, Bool, false, if◌then◌else◌, List, [], ◌∷◌, ◌++◌, Option, Some, None, option_map, slice_get}
use Rattle.std.specs.List.{list_any}
use Rattle.flow.specs.Walks.{Graph}
use Rattle.meaning.specs.Code.{Occurrence}
use Rattle.meaning.specs.Uses.{Event, obtain, obtain_kept, make, lend, start, try}
use Rattle.reasons.specs.Branches.{Branch, word_at, place_at}
use Rattle.reasons.specs.Words.{Word, obtained, made, started}

pub record Note : Type 0 where
  pub at : ℕ
  pub word : Word

-- the variable that is told of, and the group of which the beginnings of work are told: itself, or that to which the
-- call is left
pub record Told : Type 0 where
  pub number : ℕ
  pub group : Option ℕ

abbrev pub note_if : Bool → ℕ → Word → Option Note
note_if b at word = if b then Some record { at = at; word = word } else None

abbrev pub is_group_told : Option ℕ → ℕ → Bool
is_group_told None g = false
is_group_told (Some h) g = h == g

-- Events

-- what happens at the offset: the variable is bound, or work of the group begins
abbrev pub event_note : Told → ℕ → Event → Option Note
event_note told at (obtain u f k is_declared) = note_if (u.number == told.number) u.at obtained
event_note told at (obtain_kept u f k x) = note_if (u.number == told.number) u.at obtained
event_note told at (make u state) = note_if (u.number == told.number) u.at made
event_note told at (start g literal) = note_if (is_group_told told.group g) at started
event_note told at (try g literal) = note_if (is_group_told told.group g) at started
event_note told at (lend g f k) = note_if (is_group_told told.group g) at started
event_note told at e = None

-- it binds the variable
abbrev pub is_binding : Told → Event → Bool
is_binding told (obtain u f k is_declared) = u.number == told.number
is_binding told (obtain_kept u f k x) = u.number == told.number
is_binding told (make u state) = u.number == told.number
is_binding told e = false

-- Branches

-- a node stands at another offset
abbrev pub is_elsewhere : ℕ → Option (Occurrence Event) → Bool
is_elsewhere at None = false
is_elsewhere at (Some o) = not (o.at == at)

-- of these nodes one stands at another offset
abbrev pub could_go_else : Graph Event → ℕ → Option (List ℕ) → Bool
could_go_else g at None = false
could_go_else g at (Some next) = list_any (λ m. is_elsewhere at (slice_get g.nodes m)) next

-- the first of these that begins there
abbrev pub branch_at : List Branch → ℕ → Option Branch
branch_at [] at = None
branch_at (b ∷ bs) at = if b.span.start == at then Some b else branch_at bs at

abbrev pub told_branch : ℕ → Branch → Note
told_branch next b = record { at = place_at b next; word = word_at b next }

-- the node stands at the offset `at`, the next one of the way at `next`, and others could be the next one
abbrev pub branch_note : Graph Event → List Branch → ℕ → ℕ → ℕ → Option Note
branch_note g bs node at next =
    if not (at == next) && could_go_else g next (slice_get g.next node)
    then option_map (told_branch next) (branch_at bs at)
    else None

-- Ways

abbrev pub one_or_none : Option Note → List Note
one_or_none None = []
one_or_none (Some n) = n ∷ []

-- of a node, and of the next one of the way
abbrev pub node_notes
    : Graph Event → List Branch → Told → ℕ → Option (Occurrence Event) → Option (Occurrence Event) → List Note
node_notes g bs told node None p = []
node_notes g bs told node (Some o) None = []
node_notes g bs told node (Some o) (Some p) =
    one_or_none (event_note told o.at o.event) ++ one_or_none (branch_note g bs node o.at p.at)

abbrev pub binds_there : Told → Option (Occurrence Event) → Bool
binds_there told None = false
binds_there told (Some o) = is_binding told o.event

-- of the nodes before the node `next`, the last one first, from the last binding on
abbrev pub notes_to : Graph Event → List Branch → Told → ℕ → List ℕ → List Note
notes_to g bs told next [] = []
notes_to g bs told next (n ∷ ns) =
    (if binds_there told (slice_get g.nodes n) then [] else notes_to g bs told n ns)
    ++ node_notes g bs told n (slice_get g.nodes n) (slice_get g.nodes next)

-- the notes of a way, whose nodes stand with the last one first
abbrev pub notes_of_way : Graph Event → List Branch → Told → List ℕ → List Note
notes_of_way g bs told [] = []
notes_of_way g bs told (next ∷ before) = notes_to g bs told next before

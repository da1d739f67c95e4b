-- What is proved of the rules for uses, each by a public function of src/lib.rt: a mention of a tracked variable is a
-- binding, an allowed mention, or neither and then a fault; and what has events stands at one site. What a binding
-- gives is not said here: an event, a fault, or both.
use Rattle.std.specs.Prelude.{ℕ, ◌≡◌, true, List, [], Option, Some, None}
use Rattle.meaning.specs.FunctionFacts.{VariableKind}
use Rattle.meaning.specs.Mentions.{BodyPlace, Role, left, Mention, Mark}
use Rattle.meaning.specs.Tracked.{variable_of, Local}
use Rattle.meaning.specs.Uses.{Seen, found, tracked_kind, Binding, binding_at, Event, kind_use, fault_at, otherwise, only_faults, variable_outcome}
use Rattle.meaning.specs.BodyEvents.{mark_events, is_site}

-- the mention is of the local, which is tracked as that kind
pub record IsMentionOf (seen : Seen) (m : Mention) (l : Local) (kind : VariableKind) : Type 0 where
  pub is_of_it : found seen (variable_of seen.known m) ≡ Some l
  pub is_tracked : tracked_kind seen (Some l) ≡ Some kind

-- how its row binds what stands there, if it is a left side
abbrev pub binding_of : Seen → Role → Option Binding
binding_of seen (left k row) = binding_at seen row k
binding_of seen role = None

-- A mention is a binding, an allowed mention, or neither. No two of the three can hold: a binding is no allowed
-- mention, and the others are no binding.
pub data IsOneOfThree
    (seen : Seen) (bodies : List BodyPlace) (m : Mention) (l : Local) (kind : VariableKind)
    : Type 0 where
  binds : (b : Binding) → binding_of seen m.role ≡ Some b → kind_use seen l kind bodies m ≡ None
      → IsOneOfThree seen bodies m l kind
  -- it gives these events, and no fault
  is_allowed : (events : List Event) → binding_of seen m.role ≡ None → kind_use seen l kind bodies m ≡ Some events
      → variable_outcome seen bodies m ≡ record { faults = []; events = events }
      → IsOneOfThree seen bodies m l kind
  -- it is neither, and gives one fault, where it stands, and no event
  is_fault : binding_of seen m.role ≡ None → kind_use seen l kind bodies m ≡ None
      → variable_outcome seen bodies m ≡ only_faults (fault_at m.named.at (otherwise kind) l.name)
      → IsOneOfThree seen bodies m l kind

abbrev pub EachMentionIsOneOfThree : Type 0
EachMentionIsOneOfThree = (seen : Seen) (bodies : List BodyPlace) (m : Mention) (l : Local) (kind : VariableKind)
    → IsMentionOf seen m l kind → IsOneOfThree seen bodies m l kind

-- a mark that gives events stands at one site (that the body's code asks for that site is not said here)
pub record EventsStandAtOneSite : Type 0 where
  pub has_a_site : (seen : Seen) (bodies : List BodyPlace) (m : Mark) → (mark_events seen bodies m ≡ [] → ⊥)
      → (at : ℕ) × (is_site m at ≡ true)
  pub has_no_other : (m : Mark) (at other : ℕ) → is_site m at ≡ true → is_site m other ≡ true → at ≡ other

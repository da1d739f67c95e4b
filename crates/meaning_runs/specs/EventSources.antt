-- Where the events of a body come from: each is that of a mark that stands in the body and in no literal in it, or says
-- nothing, or is the return at the body's end.
use Rattle.std.specs.Prelude.{◌≡◌, true, List, [], Some, Contains}
use Rattle.meaning.specs.Code.{Occurrence}
use Rattle.meaning.specs.Lists.{Reaches}
use Rattle.meaning.specs.FunctionFacts.{cancel}
use Rattle.meaning.specs.Tracked.{Placed, Local, in_block}
use Rattle.meaning.specs.Uses.{VariableAt, Event, other, return_event, found, is_body, tracked_kind}
use Rattle.meaning.specs.BodyEvents.{mark_events}
use Rattle.meaning_packages.specs.PathFaults.{BindsCancel}
use Rattle.meaning_runs.specs.Bodies.{Program, Body, IsOf, code_of}

pub data HasSource (b : Body) : Event → Type 0 where
  says_nothing : HasSource b other
  falls_off : HasSource b (return_event [])
  of_mark : {e : Event} (mark : Placed)
      → Contains b.file.marks mark
      → is_body b.place.at mark.bodies ≡ true
      → Contains (mark_events b.file mark.bodies mark.mark) e
      → HasSource b e

abbrev pub EventsHaveSources : Type 0
EventsHaveSources = (b : Body) (t : List (Occurrence Event)) (o : Occurrence Event)
    → Reaches (code_of b) t o
    → HasSource b o.event

-- a local that the body declares in its block, and that the event binds
pub record IsBound (b : Body) (u : VariableAt) : Type 0 where
  pub local : Local
  pub is_found : found b.file (Some u.number) ≡ Some local
  pub is_it : local.number ≡ u.number
  pub is_declared_here : local.body ≡ b.place.at
  pub is_in_block : local.role ≡ in_block

abbrev pub BindingsAreOfLocals : Type 0
BindingsAreOfLocals = (b : Body) (t : List (Occurrence Event)) (o : Occurrence Event) (u : VariableAt)
    → Reaches (code_of b) t o
    → BindsCancel o.event u
    → IsBound b u

-- such a local is tracked as a cancel variable
abbrev pub BindingsAreTracked : Type 0
BindingsAreTracked = (p : Program) (b : Body) (t : List (Occurrence Event)) (o : Occurrence Event) (u : VariableAt)
    → IsOf p b
    → Reaches (code_of b) t o
    → BindsCancel o.event u
    → (h : IsBound b u)
    → tracked_kind b.file (Some h.local) ≡ Some cancel

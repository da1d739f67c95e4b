-- Ways to the fault of a path: why it stands in a report. A way is a list of a body's events that comes to the fault,
-- and no list that does so is shorter. What it leaves of the variable is the fault, as `IsPathFault` of
-- `meaning_packages/specs/PathFaults.antt` says it, here with the list and the occurrence by name. Of a variable that
-- is left to a group the way is the variable's: that the group may be live there, some list says, this or another one.
use Rattle.std.specs.Prelude.{ℕ, ◌≡◌, ◌≤◌, ◌↔◌, true, false, List, length, Option, Some, None, Contains}
use Rattle.meaning.specs.BodyEvents.{Variable}
use Rattle.meaning.specs.Classes.{CancelClass, unset, opened, kept, safe, pending}
use Rattle.meaning.specs.Code.{Occurrence}
use Rattle.meaning.specs.FunctionFacts.{cancel}
use Rattle.meaning.specs.Lists.{Reaches}
use Rattle.meaning.specs.Tracked.{GroupState}
use Rattle.meaning.specs.Uses.{VariableAt, Handed, Event, make, return_event}
use Rattle.meaning_packages.specs.PathFaults.{Paths, PathCode, PathFault, overwritten, not_called, group_is_live, group_overwritten, left_to_live_group, passed_on, is_declared, is_lost, is_handed_kept, cancel_class, BindsCancel, OwesCall, LeavesLive, IsLeft, IsPathFault}

-- what the list leaves of the variable is the fault at the occurrence
pub data IsFaultAfter (b : Paths) (v : Variable) (t : List (Occurrence Event)) (o : Occurrence Event)
    : PathFault → Type 0 where
  rebinds : (u : VariableAt)
      → Contains b.variables v
      → v.kind ≡ cancel
      → BindsCancel o.event u
      → u.number ≡ v.number
      → is_lost b.variables (cancel_class b v t) ≡ true
      → IsFaultAfter b v t o record { at = u.at; code = overwritten; name = v.name }
  remakes : (u : VariableAt) (state : GroupState)
      → o.event ≡ make u state
      → u.number ≡ v.number
      → LeavesLive b v t
      → IsFaultAfter b v t o record { at = u.at; code = group_overwritten; name = v.name }
  leaves_live : (handed : List Handed)
      → o.event ≡ return_event handed
      → is_declared v.role ≡ true
      → LeavesLive b v t
      → IsFaultAfter b v t o record { at = o.at; code = group_is_live; name = v.name }
  leaves_open : (handed : List Handed)
      → o.event ≡ return_event handed
      → OwesCall b v handed
      → cancel_class b v t ≡ opened
      → IsFaultAfter b v t o record { at = o.at; code = not_called; name = v.name }
  leaves_kept : (handed : List Handed)
      → o.event ≡ return_event handed
      → OwesCall b v handed
      → cancel_class b v t ≡ kept
      → is_handed_kept v.number handed ≡ false
      → IsFaultAfter b v t o record { at = o.at; code = not_called; name = v.name }
  leaves_pending : (handed : List Handed)
      → o.event ≡ return_event handed
      → OwesCall b v handed
      → IsLeft b v t o
      → IsFaultAfter b v t o record { at = o.at; code = left_to_live_group; name = v.name }

-- the list comes to the fault, which is at the occurrence
pub record ComesTo (b : Paths) (f : PathFault) (t : List (Occurrence Event)) (o : Occurrence Event) : Type 0 where
  pub variable : Variable
  pub reaches : Reaches b.code t o
  pub is_fault : IsFaultAfter b variable t o f

-- and none that does so is shorter
pub record IsWay (b : Paths) (f : PathFault) (t : List (Occurrence Event)) (o : Occurrence Event) : Type 0 where
  pub comes : ComesTo b f t o
  pub is_shortest : (u : List (Occurrence Event)) (p : Occurrence Event) → ComesTo b f u p → length t ≤ length u

-- Of which group's work a way tells

abbrev pub pending_in : CancelClass → Option ℕ
pending_in unset = None
pending_in opened = None
pending_in kept = None
pending_in safe = None
pending_in (pending g) = Some g

-- by the fault's code, the number of its variable, and the group in which that is pending: the variable, where it is a
-- group, or the group to which its call is left
abbrev pub group_told : PathCode → ℕ → Option ℕ → Option ℕ
group_told overwritten number left_to = None
group_told not_called number left_to = None
group_told group_is_live number left_to = Some number
group_told group_overwritten number left_to = Some number
group_told left_to_live_group number left_to = left_to
group_told passed_on number left_to = None

-- What is proved of it: the faults of a body's paths are those to which lists come.

pub record SomeComesTo (b : Paths) (f : PathFault) : Type 0 where
  pub list : List (Occurrence Event)
  pub there : Occurrence Event
  pub comes : ComesTo b f list there

abbrev pub FaultsHaveLists : Type 0
FaultsHaveLists = (b : Paths) (f : PathFault) → IsPathFault b f ↔ SomeComesTo b f

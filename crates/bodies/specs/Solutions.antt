-- What the program keeps of a solution, and what it says.
use Rattle.std.specs.Prelude.{ℕ, ◌≡◌, ◌+◌, ◌*◌, Bool, false, ◌&&◌, List, [], ◌∷◌, Option, Some, None, nat_lt, slice_get}
use Rattle.bodies.specs.NodeEvents.{events_graph}
use Rattle.bodies.specs.declared.node.NodeEvent.{NodeEvent}
use Rattle.flow.specs.declared.graph.Graph.{Graph}
use Rattle.bodies.specs.Flags.{is_marked_flag, cancel_width, cancel_entry, group_width, group_entry}
use Rattle.bodies.specs.JoinedStates.{has_at}
use Rattle.bodies.specs.declared.solution.Solution.{Solution}
use Rattle.meaning.specs.BodyEvents.{Variable}
use Rattle.meaning.specs.Classes.{Promises, CancelClass, GroupClass}
use Rattle.meaning.specs.FunctionFacts.{VariableKind, cancel, group}
use Rattle.bodies.specs.Carried.{TellsReached}
use Rattle.bodies.specs.Bits.{cancel_bit, group_bit}
use Rattle.bodies.specs.BitSteps.{cancel_step, group_step}
use Rattle.bodies.specs.declared.state.State.{State}
use Rattle.bodies.specs.declared.state.TheConstants.{WORD_BITS, CANCEL_BITS, STATE_WORDS}

-- whether the bit of a mask is set at the node, for a variable whose mask begins with that bit
abbrev pub packed_for : List State → Option ℕ → ℕ → ℕ → Bool
packed_for states None n i = false
packed_for states (Some first) n i =
    nat_lt first (STATE_WORDS * WORD_BITS) && (nat_lt i CANCEL_BITS && has_at states n (first + i))

-- the same for the variable of that place in the list
abbrev pub found_in : Solution → ℕ → ℕ → ℕ → Bool
found_in s place n i = packed_for s.states.items (slice_get s.firsts.items place) n i

-- whether the class arrives at the node n for the variable of that place in the list
abbrev pub cancel_arrives : Solution → ℕ → ℕ → CancelClass → Bool
cancel_arrives s place n k = is_marked_flag (found_in s place n) (cancel_bit s.groups.items k)

abbrev pub group_arrives : Solution → ℕ → ℕ → GroupClass → Bool
group_arrives s place n k = found_in s place n (group_bit k)

-- the table tells of a variable which flags its events carry to the nodes of the graph
abbrev pub FindsCancel : Promises → List ℕ → Graph NodeEvent → Variable → (ℕ → ℕ → Bool) → Type 0
FindsCancel p groups g v found =
    TellsReached (events_graph g) (cancel_step p v.number groups) cancel_width
    (cancel_entry v.role ∷ []) found

abbrev pub FindsGroup : Promises → Graph NodeEvent → Variable → (ℕ → ℕ → Bool) → Type 0
FindsGroup p g v found =
    TellsReached (events_graph g) (group_step p v.number) group_width (group_entry v.role ∷ []) found

-- the same by the variable's kind
abbrev pub FindsKind : VariableKind → Promises → List ℕ → Graph NodeEvent → Variable → (ℕ → ℕ → Bool) → Type 0
FindsKind cancel p groups g v found = FindsCancel p groups g v found
FindsKind group p groups g v found = FindsGroup p g v found

-- and for each of the variables
abbrev pub FindsEach : Promises → List ℕ → Graph NodeEvent → List Variable → (ℕ → ℕ → ℕ → Bool) → Type 0
FindsEach p groups g vs found =
    (i : ℕ) (v : Variable) → slice_get vs i ≡ Some v → FindsKind v.kind p groups g v (found i)

-- What the program keeps of a body that is laid out for its certificates, and what it stands for.
use Rattle.std.specs.Prelude.{ℕ, ◌≡◌, ◌<◌, ◌≤◌, Bool, ◌&&◌, if◌then◌else◌, List, length, map, Option, Some, None, is_none, nat_lt, slice_index_or, slice_set}
use Rattle.std.specs.List.Sorted.{IsPermutation}
use Rattle.std.specs.declared.alloc.Global.{Global}
use Rattle.std.specs.declared.vec.Vec.{Vec as VecIn}
use Rattle.bodies.specs.declared.graph.BodyGraph.{BodyGraph}
use Rattle.bodies.specs.NodeEvents.{events_graph}
use Rattle.events.specs.declared.variable.Variable.{Variable as KeptVariable}
use Rattle.events.specs.VariableViews.{variable_view}
use Rattle.flow.specs.declared.order.NodePlace.{NodePlace}
use Rattle.flow.specs.GraphViews.{occurrences_of}
use Rattle.flow.specs.NodeOrder.{places}
use Rattle.meaning.specs.Classes.{Promises}
use Rattle.meaning.specs.FunctionFacts.{cancel, group}
use Rattle.meaning.specs.Uses.{Handed, return_event}
use Rattle.meaning.specs.declared.TheConstants.{MOST_CANCELS, MOST_GROUPS}
use Rattle.tracked_rows.specs.EventViews.{event_view}
use Rattle.tree.specs.declared.edition.Edition.{Edition}
use Rattle.tracked_rows.specs.declared.event.Event.{Event as KeptEvent}
use Rattle.checker.specs.declared.laid_out.LaidOut.{LaidOut}
use Rattle.checker.specs.Certificates.{CheckedBody, groups_with_bits, row_from, masks_in}
use Rattle.checker.specs.Loaded.{numbers_of}

abbrev pub Vec : Type 0 → Type 0
Vec T = VecIn T Global

-- Rows

abbrev pub states_view : List (Vec ℕ) → List (List ℕ)
states_view = map (λ row. row.items)

-- the row of a node, in the list of the rows of all nodes
abbrev pub row_of : List (Option ℕ) → ℕ → Option ℕ
row_of rows node = slice_index_or rows node None

-- the node has the row, unless it has one, or is none of these
abbrev pub with_row : ℕ → ℕ → List (Option ℕ) → List (Option ℕ)
with_row node row rows =
    if nat_lt node (length rows) && is_none (row_of rows node) then slice_set rows node (Some row) else rows

-- each of so many nodes has the first row in which it stands
pub record RowsOfNodes (nodes : ℕ) (order : List NodePlace) (rows : List (Option ℕ)) : Type 0 where
  pub are_as_many : length rows ≡ nodes
  pub each : (n : ℕ) → n < nodes → row_of rows n ≡ row_from 0 order n

-- the masks at a node, as they are looked up
abbrev pub masks_of : LaidOut → List (Vec ℕ) → ℕ → List ℕ
masks_of l states node = masks_in (states_view states) (row_of l.rows.items node)

-- Bodies

-- the body, with what it relies on and what is claimed of it
abbrev pub body_of : LaidOut → Promises → (ℕ → Bool) → CheckedBody
body_of l promises claims = record {
  edition = l.edition;
  graph = events_graph l.kept.now.graph;
  order = l.kept.now.order.items;
  variables = map variable_view l.variables.now;
  promises = promises;
  is_claimed = claims;
}

-- it stands for a return, which changes no class
abbrev pub IsReturn : KeptEvent → Type 0
IsReturn e = (handed : List Handed) × (event_view e ≡ return_event handed)

-- its rows are looked up where they stand, its variables are listed by their kinds, its groups have the bits, and what
-- takes the place of nothing is a return
pub record IsLaidOut (l : LaidOut) : Type 0 where
  pub rows : (n : ℕ) → row_of l.rows.items n ≡ row_from 0 l.kept.now.order.items n
  pub cancels : l.numbers.cancels.items ≡ numbers_of cancel (map variable_view l.variables.now)
  pub own_groups : l.numbers.groups.items ≡ numbers_of group (map variable_view l.variables.now)
  pub groups : l.groups.items ≡ groups_with_bits (map variable_view l.variables.now)
  pub nothing : IsReturn l.nothing

-- states have places for its variables, and bits for the groups
pub record HavePlaces (l : LaidOut) : Type 0 where
  pub cancels : length l.numbers.cancels.items ≤ MOST_CANCELS
  pub own_groups : length l.numbers.groups.items ≤ MOST_GROUPS
  pub groups : length l.groups.items ≤ MOST_GROUPS

-- the order has each node of the graph once
abbrev pub HasWholeOrder : BodyGraph → Type 0
HasWholeOrder kept = IsPermutation (places 0 (occurrences_of kept.graph.nodes.items)) kept.order.items

-- it is the body of these variables and that graph, by that edition, and laid out where the graph's order is whole
pub record LaysOut (edition : Edition) (variables : List KeptVariable) (kept : BodyGraph) (l : LaidOut) : Type 0 where
  pub is_edition : l.edition ≡ edition
  pub are_variables : l.variables.now ≡ variables
  pub is_kept : l.kept.now ≡ kept
  pub is_laid_out : HasWholeOrder kept → IsLaidOut l

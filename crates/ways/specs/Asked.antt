-- Which groups may be live at nodes: those that some list leaves live at the place of the node, this list or another.
use Rattle.std.specs.Prelude.{ℕ, ◌≡◌, ◌↔◌, Bool, true, List, map, Some, slice_get}
use Rattle.bodies.specs.NodeEvents.{IsGraphOf}
use Rattle.bodies.specs.OwnGroups.{groups_of}
use Rattle.events.specs.VariableViews.{variable_view}
use Rattle.flow.specs.GraphOfCode.{nodes}
use Rattle.flow.specs.declared.order.NodePlace.{NodePlace}
use Rattle.bodies.specs.Places.{HavePlaces}
use Rattle.meaning.specs.BodyEvents.{Variable}
use Rattle.meaning.specs.Classes.{Promises}
use Rattle.meaning.specs.Code.{Occurrence}
use Rattle.meaning.specs.Lists.{Reaches}
use Rattle.meaning.specs.Uses.{Event}
use Rattle.meaning_packages.specs.PathFaults.{Paths, LeavesLive}
use Rattle.ways.specs.declared.way.Asked.{Asked}
use Rattle.ways.specs.Found.{FoundWay}
use Rattle.ways.specs.declared.way.Way.{Way}

-- some list that comes to an occurrence of that place leaves the group live
pub record MayBeLive (b : Paths) (g : Variable) (at order : ℕ) : Type 0 where
  pub list : List (Occurrence Event)
  pub there : Occurrence Event
  pub reaches : Reaches b.code list there
  pub same_offset : there.at ≡ at
  pub same_order : there.order ≡ order
  pub is_live : LeavesLive b g list

-- the test says so of each node of the body's graph, and of each group by its place in the list of variables
abbrev pub TellsLives : Paths → (NodePlace → ℕ → Bool) → Type 0
TellsLives b lives = (n j : ℕ) (o : Occurrence Event) (g : Variable)
    → slice_get (nodes b.code) n ≡ Some o
    → slice_get b.variables j ≡ Some g
    → (lives record { at = o.at; order = o.order; node = n } j ≡ true) ↔ MayBeLive b g o.at o.order

-- what is told of a body is this
pub record IsAsked {P L : Type 0}
    (promises_of : P → Promises) (lives_of : L → NodePlace → ℕ → Bool) (asked : Asked P L) (b : Paths)
    : Type 0 where
  pub is_graph : IsGraphOf b.code asked.graph.now
  pub are_variables : b.variables ≡ map variable_view asked.variables.now
  pub are_promises : b.promises ≡ promises_of asked.promises.now
  pub have_places : HavePlaces b.code b.variables
  pub are_groups : asked.groups.now ≡ groups_of b.variables
  pub tells_lives : TellsLives b (lives_of asked.live.now)

abbrev pub way_view : Way → FoundWay
way_view w = record { nodes = w.nodes.items; number = w.number; group = w.group }

-- What the program keeps of the states at the nodes of a graph, and what joining a state at nodes does to it. How each
-- variable's mask comes to be what the walks carry there.
use Rattle.std.specs.Prelude.{ℕ, ◌≡◌, ◌<◌, ◌≤◌, ◌⊎◌, ◌↔◌, ◌+◌, ◌*◌, Bool, true, false, List, [], map, length, Option, Some, None, slice_index_or, sum_by, Contains}
use Rattle.flow.specs.declared.graph.Node.{Node}
use Rattle.bodies.specs.declared.state.State.{State}
use Rattle.bodies.specs.declared.state.StateVariables.{StateVariables}
use Rattle.bodies.specs.States.{has_bit, mask_from, IsImage, Applies}
use Rattle.bodies.specs.StateWords.{StaysBelow, room}
use Rattle.bodies.specs.declared.node.NodeEvent.{NodeEvent}
use Rattle.bodies.specs.declared.node.NodeEvent.TheVariants.{Other, FallsOff, Does}
use Rattle.flow.specs.declared.graph.Graph.{Graph}
use Rattle.flow.specs.GraphViews.{graph_view}
use Rattle.bodies.specs.Carried.{TellsReached}
use Rattle.bodies.specs.declared.sweep.Sweep.{Sweep}
use Rattle.meaning.specs.Classes.{Promises}
use Rattle.tracked_rows.specs.EventViews.{event_view}

-- the words of the state at a node; none where there is no such node
abbrev pub words_at : List State → ℕ → List ℕ
words_at states n = slice_index_or (map (λ s. s.words) states) n []

abbrev pub has_at : List State → ℕ → ℕ → Bool
has_at states n bit = has_bit (words_at states n) bit

-- how far the states can grow still
abbrev pub room_of : List State → ℕ
room_of = sum_by (λ s. room s.words)

-- how much is left to do at most: all nodes again for each time that a state can grow, and those that are left now
abbrev pub work : Sweep → ℕ
work s = room_of s.states.items * (length s.states.items + 1) + s.left

-- the image is joined to the states at these nodes, and nodes whose states grew are to be followed
pub record Joins (nodes : List ℕ) (image : List ℕ) (a b : Sweep) : Type 0 where
  pub counted : length b.states.items ≡ length a.states.items
  pub grows : (n bit : ℕ) → has_at a.states.items n bit ≡ true → has_at b.states.items n bit ≡ true
  pub finds : (n bit : ℕ)
      → has_at b.states.items n bit ≡ true
      → (has_at a.states.items n bit ≡ true) ⊎ (Contains nodes n × (has_bit image bit ≡ true))
  pub done : (n bit : ℕ)
      → Contains nodes n
      → n < length a.states.items
      → has_bit image bit ≡ true
      → has_at b.states.items n bit ≡ true
  pub kept : (n : ℕ) → b.left ≤ n → words_at b.states.items n ≡ words_at a.states.items n
  pub later : a.left ≤ b.left
  pub within : a.left ≤ length a.states.items → b.left ≤ length a.states.items
  pub no_more : work b ≤ work a

-- nothing arrives at so many nodes
pub record IsFresh (nodes : ℕ) (s : Sweep) : Type 0 where
  pub counted : length s.states.items ≡ nodes
  pub none : (n bit : ℕ) → has_at s.states.items n bit ≡ false
  pub left : s.left ≡ 0

-- Nodes

-- what a node makes of a state
abbrev pub IsImageOf : Promises → StateVariables → NodeEvent → List ℕ → List ℕ → Type 0
IsImageOf p vs Other before after = after ≡ before
IsImageOf p vs FallsOff before after = after ≡ before
IsImageOf p vs (Does e) before after = Applies p (event_view e.now) vs before after

-- what the node makes of its state is joined to the states at the nodes that can follow
abbrev pub Follows : Promises → StateVariables → Option (Node NodeEvent) → Sweep → Sweep → Type 0
Follows p vs None a b = b ≡ a
Follows p vs (Some node) a b =
    (image : List ℕ)
    × IsImageOf p vs node.occurrence.event (words_at a.states.items a.left) image
    × Joins node.next.items image a b

-- Variables

-- of one variable: where its mask begins, how many bits it has, what nodes make of them, and which are set at first;
-- usual are the bits that can be set at all
pub record IsColumn
    (p : Promises) (vs : StateVariables) (entry : List ℕ) (first count : ℕ) (step : NodeEvent → ℕ → ℕ)
    (entries : List ℕ) (usual : ℕ → Bool)
    : Type 0 where
  pub stays : (e : NodeEvent) → StaysBelow count (step e)
  pub small : (bit : ℕ) → Contains entries bit → bit < count
  pub is_entry : (bit : ℕ) → bit < count → (mask_from entry first bit ≡ true) ↔ Contains entries bit
  pub begins : (bit : ℕ) → Contains entries bit → usual bit ≡ true
  pub keeps : (e : NodeEvent) (bit : ℕ) → usual bit ≡ true → usual (step e bit) ≡ true
  pub images : (e : NodeEvent) (before after : List ℕ)
      → IsImageOf p vs e before after
      → ((bit : ℕ) → bit < count → mask_from before first bit ≡ true → usual bit ≡ true)
      → IsImage count (step e) (mask_from before first) (mask_from after first)

-- the states have of each variable exactly the bits that walks carry to the nodes
abbrev pub TellsColumns : Promises → StateVariables → List ℕ → Graph NodeEvent → List State → Type 0
TellsColumns p vs entry g states =
    (first count : ℕ) (step : NodeEvent → ℕ → ℕ) (entries : List ℕ) (usual : ℕ → Bool)
    → IsColumn p vs entry first count step entries usual
    → TellsReached (graph_view g) step count entries (λ n bit. mask_from (words_at states n) first bit)

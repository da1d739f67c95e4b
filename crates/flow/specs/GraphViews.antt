-- What the program keeps of a graph, and what it stands for.
use Rattle.std.specs.Prelude.{ℕ, ◌≡◌, ◌+◌, ◌≤◌, Bool, false, if◌then◌else◌, nat_eq, List, [], ◌∷◌, ◌++◌, map, length}
use Rattle.indexmap.specs.IndexSet.{contains}
use Rattle.std.specs.declared.alloc.Global.{Global}
use Rattle.std.specs.declared.vec.Vec.{Vec as VecIn}
use Rattle.code.specs.CodeViews.{occurrence_view, way_view}
use Rattle.flow.specs.declared.exits.Destination.{Destination}
use Rattle.flow.specs.declared.exits.Exits.{Exits}
use Rattle.flow.specs.declared.exits.Ways.{Ways}
use Rattle.flow.specs.declared.exits.Ways.TheVariants.{One, Falls}
use Rattle.flow.specs.declared.graph.Node.{Node}
use Rattle.flow.specs.declared.graph.Graph.{Graph as KeptGraph}
use Rattle.meaning.specs.Code.{Occurrence, Way, returning, breaking, continuing, falling, Code}
use Rattle.flow.specs.GraphOfCode.{same_way, arriving, no_exit, size, nodes, firsts, links}
use Rattle.flow.specs.Walks.{Graph}

abbrev pub Vec : Type 0 → Type 0
Vec T = VecIn T Global

abbrev pub most : ℕ
most = 18446744073709551615

abbrev pub total : {E : Type 0} → List (Code E) → ℕ
total [] = 0
total (c ∷ cs) = size c + total cs

-- Ways out

-- the way is a `fallthrough` that passes the test
abbrev pub falls_by : (ℕ → Bool) → Way → Bool
falls_by test returning = false
falls_by test (breaking l) = false
falls_by test (continuing l) = false
falls_by test (falling at) = test at

-- the way is one of these
abbrev pub leads_there : Ways → Way → Bool
leads_there (One w) way = same_way way (way_view w)
leads_there (Falls falls) way = falls_by (contains nat_eq falls) way

abbrev pub exits_view : List Destination → Way → List ℕ
exits_view [] way = no_exit way
exits_view (e ∷ es) way = if leads_there e.ways way then e.next.items else exits_view es way

-- what falls through at one of these offsets arrives at these nodes
abbrev pub arriving_falls : List ℕ → List ℕ → (Way → List ℕ) → Way → List ℕ
arriving_falls [] next exits = exits
arriving_falls (at ∷ ats) next exits = arriving_falls ats next (arriving (falling at) next exits)

abbrev pub rest_of : {A : Type 0} → List A → List A
rest_of [] = []
rest_of (x ∷ xs) = xs

-- ways out to one end are added, before the others
pub record EntersWays (ways : Ways) (next : List ℕ) (before after : Exits) : Type 0 where
  pub view : (way : Way)
      → exits_view after.entries.items way
      ≡ (if leads_there ways way then next else exits_view before.entries.items way)
  pub others : rest_of after.entries.items ≡ before.entries.items

-- a way out is added, before the others
pub record Enters (way : Way) (next : List ℕ) (before after : Exits) : Type 0 where
  pub view : exits_view after.entries.items ≡ arriving way next (exits_view before.entries.items)
  pub others : rest_of after.entries.items ≡ before.entries.items

-- so are `fallthrough`s
pub record EntersFalls (falls next : List ℕ) (before after : Exits) : Type 0 where
  pub view : exits_view after.entries.items ≡ arriving_falls falls next (exits_view before.entries.items)
  pub others : rest_of after.entries.items ≡ before.entries.items

-- Graphs

module _ {E : Type 0} where
  abbrev pub occurrences_of : List (Node E) → List (Occurrence E)
  occurrences_of = map (λ n. occurrence_view n.occurrence)

  abbrev pub links_of : List (Node E) → List (List ℕ)
  links_of = map (λ n. n.next.items)

  abbrev pub graph_view : KeptGraph E → Graph E
  graph_view g = record { nodes = occurrences_of g.nodes.items; next = links_of g.nodes.items; starts = g.starts.items }

  -- a node is added
  pub record AddsNode (o : Occurrence E) (next : List ℕ) (before after : List (Node E)) (first : List ℕ) : Type 0 where
    pub is_node : occurrences_of after ≡ occurrences_of before ++ o ∷ []
    pub is_linked : links_of after ≡ links_of before ++ next ∷ []
    pub is_first : first ≡ length before ∷ []

  -- the nodes of the code are added, and these can come first in it
  pub record Links
      (c : Code E) (next : List ℕ) (exits : Way → List ℕ) (before after : List (Node E)) (first : List ℕ)
      : Type 0 where
    pub are_nodes : occurrences_of after ≡ occurrences_of before ++ nodes c
    pub are_linked : links_of after ≡ links_of before ++ links (length before) c next exits
    pub are_first : first ≡ firsts (length before) c next exits

-- these can come first in the code, where `from` occurrences stand behind it, and `past` with its own, as far as
-- numbers can tell; the ways out stay
pub record Firsts {E : Type 0}
    (from past : ℕ) (c : Code E) (next : List ℕ) (before after : Exits) (first : Vec ℕ)
    : Type 0 where
  pub are_first : from + size c ≤ most → first.items ≡ firsts from c next (exits_view before.entries.items)
  pub is_past : from + size c ≤ most → past ≡ from + size c
  pub stay : after.entries.items ≡ before.entries.items

pub record Adds {E : Type 0}
    (c : Code E) (next : List ℕ) (exits exits_after : Exits) (before after : Vec (Node E)) (first : Vec ℕ)
    : Type 0 where
  pub adds : Links c next (exits_view exits.entries.items) before.items after.items first.items
  pub stay : exits_after.entries.items ≡ exits.entries.items

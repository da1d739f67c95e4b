-- The walks of a graph: lists of nodes, each of which can follow the one before it. What is proved of the graph of a
-- code: its walks are the lists of the code.
use Rattle.std.specs.Prelude.{ℕ, ◌≡◌, List, [], ◌∷◌, Some, slice_get, Contains}
use Rattle.meaning.specs.Code.{Occurrence, Code}
use Rattle.meaning.specs.Lists.{Lists, stopped}
use Rattle.flow.specs.GraphOfCode.{nodes, firsts, links, no_exit}

-- its nodes, the nodes that can follow each, and those that can come first
pub record Graph (E : Type 0) : Type 0 where
  pub nodes : List (Occurrence E)
  pub next : List (List ℕ)
  pub starts : List ℕ

abbrev pub graph_of : {E : Type 0} → Code E → Graph E
graph_of c = record { nodes = nodes c; next = links 0 c [] no_exit; starts = firsts 0 c [] no_exit }

-- a walk from that node goes through these occurrences
pub data Walk {E : Type 0} (g : Graph E) : ℕ → List (Occurrence E) → Type 0 where
  arrives : {n : ℕ} {o : Occurrence E} → slice_get g.nodes n ≡ Some o → Walk g n (o ∷ [])
  goes_on : {n m : ℕ} {o : Occurrence E} {ms : List ℕ} {t : List (Occurrence E)}
      → slice_get g.nodes n ≡ Some o
      → slice_get g.next n ≡ Some ms
      → Contains ms m
      → Walk g m t
      → Walk g n (o ∷ t)

-- the walks from where the graph starts are the lists of the code
pub record WalksAreLists {E : Type 0} (c : Code E) (g : Graph E) : Type 0 where
  pub each_list : (o : Occurrence E) (t : List (Occurrence E))
      → Lists c (o ∷ t) stopped
      → (n : ℕ) × Contains g.starts n × Walk g n (o ∷ t)
  pub each_walk : (n : ℕ) (t : List (Occurrence E)) → Contains g.starts n → Walk g n t → Lists c t stopped

abbrev pub GraphsWalk : Type 0 → Type 0
GraphsWalk E = (c : Code E) → WalksAreLists c (graph_of c)

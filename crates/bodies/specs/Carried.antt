-- What the walks of a graph carry to its nodes: flags, or classes of a variable. A walk starts with one of the entries,
-- and the event of each node on it takes what is carried to another. What arrives at a node is what is carried before
-- the node's own event.
use Rattle.std.specs.Prelude.{ℕ, ◌≡◌, ◌<◌, ◌↔◌, Bool, true, List, [], ◌∷◌, ◌++◌, length, Some, slice_get, Contains}
use Rattle.meaning.specs.Code.{Occurrence, Code}
use Rattle.meaning.specs.Lists.{Lists, stopped}
use Rattle.flow.specs.GraphOfCode.{nodes}
use Rattle.flow.specs.Walks.{Graph, graph_of}

pub data IsReached {E K : Type 0} (g : Graph E) (step : E → K → K) (entries : List K) : ℕ → K → Type 0 where
  starts : {n : ℕ} {k : K} → Contains g.starts n → Contains entries k → IsReached g step entries n k
  goes : {n m : ℕ} {k : K} {o : Occurrence E} {ms : List ℕ}
      → IsReached g step entries n k
      → slice_get g.nodes n ≡ Some o
      → slice_get g.next n ≡ Some ms
      → Contains ms m
      → IsReached g step entries m (step o.event k)

-- the table has, for each node of the graph, exactly the flags below the width that are carried to it
pub record TellsReached {E : Type 0}
    (g : Graph E) (step : E → ℕ → ℕ) (width : ℕ) (entries : List ℕ) (has : ℕ → ℕ → Bool)
    : Type 0 where
  pub at : (n i : ℕ) → n < length g.nodes → i < width → (has n i ≡ true) ↔ IsReached g step entries n i

-- What the walks and the lists of a code have to do with it

-- what the events of these make of it, the first of them first
abbrev pub carried : {E K : Type 0} → (E → K → K) → List (Occurrence E) → K → K
carried step [] k = k
carried step (o ∷ t) k = carried step t (step o.event k)

-- a walk from that node comes to the node `n`, and goes through these before
pub data WalkTo {E : Type 0} (g : Graph E) (n : ℕ) : ℕ → List (Occurrence E) → Type 0 where
  is_there : WalkTo g n n []
  passes : {m k : ℕ} {o : Occurrence E} {ms : List ℕ} {t : List (Occurrence E)}
      → slice_get g.nodes m ≡ Some o
      → slice_get g.next m ≡ Some ms
      → Contains ms k
      → WalkTo g n k t
      → WalkTo g n m (o ∷ t)

-- a walk from where the graph starts comes to the node, and takes one of the entries to that
pub record IsCarried {E K : Type 0} (g : Graph E) (step : E → K → K) (entries : List K) (n : ℕ) (k : K) : Type 0 where
  pub start : ℕ
  pub entry : K
  pub before : List (Occurrence E)
  pub is_start : Contains g.starts start
  pub is_entry : Contains entries entry
  pub walk : WalkTo g n start before
  pub is_it : carried step before entry ≡ k

-- a flag or class is reached at a node exactly if a walk carries it there
abbrev pub ReachedByWalks : Type 0 → Type 0 → Type 0
ReachedByWalks E K =
    (g : Graph E) (step : E → K → K) (entries : List K) (n : ℕ) (k : K)
    → IsReached g step entries n k ↔ IsCarried g step entries n k

-- in the graph of a code, what is reached is what its lists carry to the occurrence that stands last in them
pub record ReachesByLists {E K : Type 0} (c : Code E) (step : E → K → K) (entries : List K) : Type 0 where
  pub each_list : (t : List (Occurrence E)) (o : Occurrence E) (k : K)
      → Lists c (t ++ o ∷ []) stopped
      → Contains entries k
      → (n : ℕ) × (slice_get (nodes c) n ≡ Some o) × IsReached (graph_of c) step entries n (carried step t k)
  pub each_node : (n : ℕ) (k : K) (o : Occurrence E)
      → slice_get (nodes c) n ≡ Some o
      → IsReached (graph_of c) step entries n k
      → (t : List (Occurrence E))
      × (j : K)
      × Contains entries j
      × (carried step t j ≡ k)
      × Lists c (t ++ o ∷ []) stopped

abbrev pub ReachedByLists : Type 0 → Type 0 → Type 0
ReachedByLists E K = (c : Code E) (step : E → K → K) (entries : List K) → ReachesByLists c step entries

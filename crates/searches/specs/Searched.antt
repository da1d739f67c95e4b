-- What a search finds that goes through a graph breadth first, over pairs of a node and the number of a class. A pair
-- is one to which a walk comes that starts with one class. Each step but those at the start has one before it in the
-- list. A step's number is its place in the list.
use Rattle.std.specs.Prelude.{ℕ, suc, ◌≡◌, ◌<◌, ◌≤◌, List, [], ◌∷◌, length, Option, Some, None, slice_get, Contains}
use Rattle.flow.specs.Walks.{Graph}
use Rattle.meaning.specs.Code.{Occurrence}
use Rattle.searches.specs.declared.search.Step.{Step}
use Rattle.searches.specs.declared.carry.TheConstants.{CLASSES}

pub record Pair : Type 0 where
  pub node : ℕ
  pub class : ℕ

abbrev pub pair_of : Step → Pair
pair_of s = record { node = s.node; class = s.class }

-- it is a node of the graph, with the number of a class
pub record IsPair {E : Type 0} (g : Graph E) (p : Pair) : Type 0 where
  pub is_node : p.node < length g.nodes
  pub is_class : p.class < CLASSES

-- the graph starts there, with the class of the entry
abbrev pub IsStart : {E : Type 0} → Graph E → ℕ → Pair → Type 0
IsStart g entry p = Contains g.starts p.node × (p.class ≡ entry)

-- an edge leads from the one to the other, and the event at its start makes the one class of the other
pub record Follows {E : Type 0} (g : Graph E) (step : E → ℕ → ℕ) (p q : Pair) : Type 0 where
  pub occurrence : Occurrence E
  pub next : List ℕ
  pub is_node : slice_get g.nodes p.node ≡ Some occurrence
  pub are_next : slice_get g.next p.node ≡ Some next
  pub leads : Contains next q.node
  pub is_class : q.class ≡ step occurrence.event p.class

-- a walk of so many edges comes to the pair
pub data IsReachedIn {E : Type 0} (g : Graph E) (step : E → ℕ → ℕ) (entry : ℕ) : ℕ → Pair → Type 0 where
  starts : {p : Pair} → IsPair g p → IsStart g entry p → IsReachedIn g step entry 0 p
  goes : {d : ℕ} {p q : Pair}
      → IsReachedIn g step entry d p
      → IsPair g q
      → Follows g step p q
      → IsReachedIn g step entry (suc d) q

-- Steps

-- the one is a start, or is not behind the other
abbrev pub IsNotBehind : Option ℕ → Option ℕ → Type 0
IsNotBehind None m = Unit {0}
IsNotBehind (Some i) None = ⊥
IsNotBehind (Some i) (Some j) = i ≤ j

-- a step of the pair is there that does not come after what follows that step
pub record IsFoundBy (steps : List Step) (p : Pair) (last : Option ℕ) : Type 0 where
  pub number : ℕ
  pub there : Step
  pub is_there : slice_get steps number ≡ Some there
  pub is_pair : pair_of there ≡ p
  pub is_not_behind : IsNotBehind there.before last

-- the step at that place in the list, where the one before it stands in the list and leads to it
pub record IsBehind {E : Type 0}
    (g : Graph E) (step : E → ℕ → ℕ) (steps : List Step) (number : ℕ) (s : Step) (before : ℕ)
    : Type 0 where
  pub is_earlier : before < number
  pub earlier : Step
  pub is_there : slice_get steps before ≡ Some earlier
  pub follows : Follows g step (pair_of earlier) (pair_of s)

-- each step is a start, or stands behind the one before it, and they come by those
pub record AreSteps {E : Type 0} (g : Graph E) (step : E → ℕ → ℕ) (entry : ℕ) (steps : List Step) : Type 0 where
  pub are_pairs : (i : ℕ) (s : Step) → slice_get steps i ≡ Some s → IsPair g (pair_of s)
  pub at_start : (i : ℕ) (s : Step)
      → slice_get steps i ≡ Some s
      → s.before ≡ None
      → IsStart g entry (pair_of s)
  pub behind : (i j : ℕ) (s : Step)
      → slice_get steps i ≡ Some s
      → s.before ≡ Some j
      → IsBehind g step steps i s j
  pub in_order : (i j : ℕ) (s t : Step)
      → slice_get steps i ≡ Some s
      → slice_get steps j ≡ Some t
      → i ≤ j
      → IsNotBehind s.before t.before

-- the search, of which so many steps were followed
pub record IsSearch {E : Type 0}
    (g : Graph E) (step : E → ℕ → ℕ) (entry : ℕ) (followed : ℕ) (steps : List Step)
    : Type 0 where
  pub are_steps : AreSteps g step entry steps
  pub has_starts : (p : Pair) → IsPair g p → IsStart g entry p → IsFoundBy steps p None
  pub has_next : (i : ℕ) (s : Step) (q : Pair)
      → i < followed
      → slice_get steps i ≡ Some s
      → IsPair g q
      → Follows g step (pair_of s) q
      → IsFoundBy steps q (Some i)

-- the whole search
abbrev pub IsWholeSearch : {E : Type 0} → Graph E → (E → ℕ → ℕ) → ℕ → List Step → Type 0
IsWholeSearch g step entry steps = IsSearch g step entry (length steps) steps

-- so many steps stand before it on the way to it
pub data IsDepth (steps : List Step) : ℕ → ℕ → Type 0 where
  first : {i : ℕ} {s : Step} → slice_get steps i ≡ Some s → s.before ≡ None → IsDepth steps i 0
  then_on : {i j d : ℕ} {s : Step}
      → slice_get steps i ≡ Some s
      → s.before ≡ Some j
      → IsDepth steps j d
      → IsDepth steps i (suc d)

-- the nodes of that step and of those before it, its own first
pub data IsTrail (steps : List Step) : ℕ → List ℕ → Type 0 where
  only : {i : ℕ} {s : Step} → slice_get steps i ≡ Some s → s.before ≡ None → IsTrail steps i (s.node ∷ [])
  longer : {i j : ℕ} {s : Step} {ns : List ℕ}
      → slice_get steps i ≡ Some s
      → s.before ≡ Some j
      → IsTrail steps j ns
      → IsTrail steps i (s.node ∷ ns)

-- the step before each stands earlier in the list
abbrev pub ComeEarlier : List Step → Type 0
ComeEarlier steps = (i j : ℕ) (s : Step)
    → slice_get steps i ≡ Some s
    → s.before ≡ Some j
    → (j < i) × (t : Step) × (slice_get steps j ≡ Some t)

-- What is proved of a whole search: each pair has a step, and the first step of a pair is as near as any walk.
pub record IsAsNear (steps : List Step) (p : Pair) (d : ℕ) : Type 0 where
  pub number : ℕ
  pub there : Step
  pub depth : ℕ
  pub is_there : slice_get steps number ≡ Some there
  pub is_pair : pair_of there ≡ p
  pub is_depth : IsDepth steps number depth
  pub is_near : depth ≤ d

abbrev pub SearchesFindNearest : Type 0 → Type 0
SearchesFindNearest E =
    (g : Graph E) (step : E → ℕ → ℕ) (entry : ℕ) (steps : List Step)
    → IsWholeSearch g step entry steps
    → (d : ℕ) (p : Pair)
    → IsReachedIn g step entry d p
    → IsAsNear steps p d

-- What is found of a search: the first step that is an end, and the way that leads to it.
use Rattle.std.specs.Prelude.{ℕ, ◌≡◌, ◌+◌, Bool, false, if◌then◌else◌, List, [], ◌∷◌, ◌++◌, length, ◌≤◌, Option, Some, None, nat_lt, slice_get}
use Rattle.flow.specs.Walks.{Graph}
use Rattle.flow.specs.declared.order.NodePlace.{NodePlace}
use Rattle.meaning.specs.BodyEvents.{Variable}
use Rattle.meaning.specs.Code.{Occurrence}
use Rattle.meaning.specs.Lists.{Reaches}
use Rattle.meaning.specs.Uses.{Event}
use Rattle.meaning_packages.specs.PathFaults.{Paths, PathFault, IsPathFault, cancel_class}
use Rattle.ways.specs.Ends.{is_end}
use Rattle.ways.specs.Ways.{IsFaultAfter, IsWay, pending_in, group_told}
use Rattle.searches.specs.declared.search.Step.{Step}

-- the number of the first that passes the test, where the first of all has the number n
abbrev pub first_from : {A : Type 0} → (A → Bool) → ℕ → List A → Option ℕ
first_from test n [] = None
first_from test n (x ∷ xs) = if test x then Some n else first_from test (n + 1) xs

-- the class is the fault at a node, where this tells which groups may be live at one
abbrev pub ends_at_node
    : List Variable → List ℕ → (NodePlace → ℕ → Bool) → Variable → PathFault → ℕ → ℕ → Option (Occurrence Event) → Bool
ends_at_node vs groups lives v f n k None = false
ends_at_node vs groups lives v f n k (Some o) =
    is_end vs groups (lives record { at = o.at; order = o.order; node = n }) v f o k

-- the step ends at the fault
abbrev pub is_end_step
    : Graph Event → List Variable → List ℕ → (NodePlace → ℕ → Bool) → Variable → PathFault → Step → Bool
is_end_step g vs groups lives v f s = ends_at_node vs groups lives v f s.node s.class (slice_get g.nodes s.node)

-- the nodes, the last one first, stand for the list
pub data StandFor (g : Graph Event) : List ℕ → List (Occurrence Event) → Type 0 where
  none : StandFor g [] []
  more : {n : ℕ} {ns : List ℕ} {o : Occurrence Event} {t : List (Occurrence Event)}
      → slice_get g.nodes n ≡ Some o
      → StandFor g ns t
      → StandFor g (n ∷ ns) (t ++ o ∷ [])

-- the nodes, the last one first, stand for a list and an occurrence of which this is so
pub record Tells (g : Graph Event) (nodes : List ℕ) (Is : List (Occurrence Event) → Occurrence Event → Type 0)
    : Type 0 where
  pub node : ℕ
  pub before : List ℕ
  pub are_nodes : nodes ≡ node ∷ before
  pub list : List (Occurrence Event)
  pub there : Occurrence Event
  pub is_there : slice_get g.nodes node ≡ Some there
  pub stand : StandFor g before list
  pub is : Is list there

-- what is found of a way: the nodes through which it goes, the last one first, the number of the variable that is the
-- fault on it, and the group of whose work it tells
pub record FoundWay : Type 0 where
  pub nodes : List ℕ
  pub number : ℕ
  pub group : Option ℕ

-- the list is found of the variable: the number is its own, and the group is that of whose work the list tells
pub record IsFoundOf (b : Paths) (f : PathFault) (w : FoundWay) (v : Variable) (t : List (Occurrence Event))
    : Type 0 where
  pub is_number : v.number ≡ w.number
  pub is_group : w.group ≡ group_told f.code v.number (pending_in (cancel_class b v t))

-- the list is a way, and is found of its variable
pub record IsWayAs (b : Paths) (f : PathFault) (w : FoundWay) (t : List (Occurrence Event)) (o : Occurrence Event)
    : Type 0 where
  pub is_way : IsWay b f t o
  pub is_of : IsFoundOf b f w is_way.comes.variable t

-- a fault of the body has a way, and what is found is one
abbrev pub TellsWayOf : Paths → PathFault → Graph Event → Option FoundWay → Type 0
TellsWayOf b f g None = IsPathFault b f → ⊥
TellsWayOf b f g (Some w) = Tells g w.nodes (IsWayAs b f w)

-- Of one variable

pub record ComesToOf (b : Paths) (v : Variable) (f : PathFault) (t : List (Occurrence Event)) (o : Occurrence Event)
    : Type 0 where
  pub reaches : Reaches b.code t o
  pub is_fault : IsFaultAfter b v t o f

pub record IsWayOf
    (b : Paths) (v : Variable) (f : PathFault) (w : FoundWay) (t : List (Occurrence Event)) (o : Occurrence Event)
    : Type 0 where
  pub comes : ComesToOf b v f t o
  pub is_of : IsFoundOf b f w v t
  pub is_shortest : (u : List (Occurrence Event)) (p : Occurrence Event) → ComesToOf b v f u p → length t ≤ length u

abbrev pub TellsWayOfVariable : Paths → Variable → PathFault → Graph Event → Option FoundWay → Type 0
TellsWayOfVariable b v f g None = (t : List (Occurrence Event)) (o : Occurrence Event) → ComesToOf b v f t o → ⊥
TellsWayOfVariable b v f g (Some w) = Tells g w.nodes (IsWayOf b v f w)

-- the shorter of two, or the one that is there; the first of two that are as long
abbrev pub shorter : Option FoundWay → Option FoundWay → Option FoundWay
shorter None m = m
shorter (Some w) None = Some w
shorter (Some w) (Some x) = if nat_lt (length x.nodes) (length w.nodes) then Some x else Some w

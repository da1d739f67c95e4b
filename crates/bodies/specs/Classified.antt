-- Which classes of a body's variables the lists of its code lead to. A table tells of each variable, by its place in
-- the list of variables, and of each node, by its number in the graph of the code, whether a class of the variable
-- arrives there. A node stands for an occurrence, and it is enough that one node of an occurrence has the class.
use Rattle.std.specs.Prelude.{ℕ, ◌≡◌, Bool, true, List, Some, slice_get}
use Rattle.meaning.specs.Code.{Occurrence, Code}
use Rattle.meaning.specs.Lists.{Reaches}
use Rattle.meaning.specs.FunctionFacts.{cancel, group}
use Rattle.meaning.specs.Uses.{Event}
use Rattle.meaning.specs.BodyEvents.{Variable}
use Rattle.meaning.specs.Classes.{Promises, CancelClass, entry_cancel, cancel_after, GroupClass, entry_group, group_after}
use Rattle.flow.specs.GraphOfCode.{nodes}

abbrev pub cancel_class_after : Promises → Variable → List (Occurrence Event) → CancelClass
cancel_class_after p v t = cancel_after p v.number (entry_cancel v.role) t

abbrev pub group_class_after : Promises → Variable → List (Occurrence Event) → GroupClass
group_class_after p v t = group_after p v.number (entry_group v.role) t

-- a list comes to the occurrence and leaves the variable in the class
pub record ArrivesAs
    {K : Type 0} (c : Code Event) (class_after : List (Occurrence Event) → K) (o : Occurrence Event) (k : K)
    : Type 0 where
  pub before : List (Occurrence Event)
  pub reaches : Reaches c before o
  pub is_class : class_after before ≡ k

-- a node of the occurrence has the class in the table
pub record IsMarkedAt
    {K : Type 0} (c : Code Event) (has : ℕ → K → Bool) (o : Occurrence Event) (k : K)
    : Type 0 where
  pub node : ℕ
  pub is_node : slice_get (nodes c) node ≡ Some o
  pub is_marked : has node k ≡ true

-- for one variable the table has exactly the classes that lists lead to
pub record TellsClasses
    {K : Type 0} (c : Code Event) (class_after : List (Occurrence Event) → K) (has : ℕ → K → Bool)
    : Type 0 where
  pub found : (n : ℕ) (o : Occurrence Event) (k : K)
      → slice_get (nodes c) n ≡ Some o
      → has n k ≡ true
      → ArrivesAs c class_after o k
  pub kept : (t : List (Occurrence Event)) (o : Occurrence Event)
      → Reaches c t o
      → IsMarkedAt c has o (class_after t)

-- the same for all variables of a body
pub record Classifies
    (c : Code Event) (p : Promises) (vs : List Variable)
    (cancels : ℕ → ℕ → CancelClass → Bool) (groups : ℕ → ℕ → GroupClass → Bool)
    : Type 0 where
  pub of_cancel : (i : ℕ) (v : Variable)
      → slice_get vs i ≡ Some v
      → v.kind ≡ cancel
      → TellsClasses c (cancel_class_after p v) (cancels i)
  pub of_group : (i : ℕ) (v : Variable)
      → slice_get vs i ≡ Some v
      → v.kind ≡ group
      → TellsClasses c (group_class_after p v) (groups i)

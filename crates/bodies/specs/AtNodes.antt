-- Which classes of a body's variables the walks of its graph carry to the nodes. A table tells of each variable, by its
-- place in the list of variables, and of each node, by its number, whether a class of the variable is reached there.
use Rattle.std.specs.Prelude.{ℕ, ◌≡◌, ◌<◌, ◌↔◌, Bool, true, List, [], ◌∷◌, length, Some, slice_get}
use Rattle.bodies.specs.Carried.{IsReached}
use Rattle.flow.specs.GraphOfCode.{nodes}
use Rattle.flow.specs.Walks.{Graph, graph_of}
use Rattle.meaning.specs.BodyEvents.{Variable}
use Rattle.meaning.specs.Classes.{Promises, CancelClass, entry_cancel, change_cancel, GroupClass, entry_group, change_group}
use Rattle.meaning.specs.Code.{Code}
use Rattle.meaning.specs.FunctionFacts.{cancel, group}
use Rattle.meaning.specs.Uses.{Event}

-- a walk carries the class of a cancel variable to the node
abbrev pub IsCancelAt : Graph Event → Promises → Variable → ℕ → CancelClass → Type 0
IsCancelAt g p v n k = IsReached g (change_cancel p v.number) (entry_cancel v.role ∷ []) n k

abbrev pub IsGroupAt : Graph Event → Promises → Variable → ℕ → GroupClass → Type 0
IsGroupAt g p v n k = IsReached g (change_group p v.number) (entry_group v.role ∷ []) n k

-- in the graph of the code the table has, for each node, exactly these classes
abbrev pub TellsAtNodes : {K : Type 0} → Code Event → (ℕ → K → Type 0) → (ℕ → K → Bool) → Type 0
TellsAtNodes {K} c IsAt has = (n : ℕ) (k : K) → n < length (nodes c) → (has n k ≡ true) ↔ IsAt n k

-- the same for all variables of a body
pub record ClassifiesNodes
    (c : Code Event) (p : Promises) (vs : List Variable)
    (cancels : ℕ → ℕ → CancelClass → Bool) (groups : ℕ → ℕ → GroupClass → Bool)
    : Type 0 where
  pub of_cancel : (i : ℕ) (v : Variable)
      → slice_get vs i ≡ Some v
      → v.kind ≡ cancel
      → TellsAtNodes c (IsCancelAt (graph_of c) p v) (cancels i)
  pub of_group : (i : ℕ) (v : Variable)
      → slice_get vs i ≡ Some v
      → v.kind ≡ group
      → TellsAtNodes c (IsGroupAt (graph_of c) p v) (groups i)

-- The least certificate of a body: its masks have exactly the classes that the walks of the body's graph carry to the
-- nodes, each class that has a bit. So it says no more than can happen by the graph.
use Rattle.std.specs.Prelude.{ℕ, ◌≡◌, ◌<◌, ◌↔◌, Bool, true, List, length, Option, Some, slice_get, slice_index_or}
use Rattle.std.specs.List.Sorted.{IsPermutation}
use Rattle.checker.specs.Certificates.{CheckedBody, class_of_bit, mask_at, HasRows}
use Rattle.flow.specs.GraphOfCode.{nodes}
use Rattle.flow.specs.NodeOrder.{places, AreInOrder}
use Rattle.flow.specs.Walks.{graph_of}
use Rattle.flow.specs.declared.order.NodePlace.{NodePlace}
use Rattle.bodies.specs.AtNodes.{IsCancelAt, IsGroupAt}
use Rattle.meaning.specs.BodyEvents.{Variable}
use Rattle.meaning.specs.FunctionFacts.{VariableKind, cancel, group}
use Rattle.meaning_packages.specs.PathFaults.{Paths}
use Rattle.tree.specs.declared.edition.Edition.TheVariants.{Second}
use Rattle.bodies.specs.Bits.{group_class}
use Rattle.bodies.specs.Masks.{is_set}

-- the bit stands for a class that is so
pub record StandsFor {K : Type 0} (class_of : ℕ → Option K) (IsSo : K → Type 0) (bit : ℕ) : Type 0 where
  pub class : K
  pub is_class : class_of bit ≡ Some class
  pub is_so : IsSo class

-- a bit is set exactly where it stands for a class that is so
abbrev pub HasJust : {K : Type 0} → (ℕ → Option K) → (K → Type 0) → ℕ → Type 0
HasJust class_of IsSo mask = (bit : ℕ) → (is_set mask bit ≡ true) ↔ StandsFor class_of IsSo bit

-- the mask of a variable has the classes that are carried to the node of that number
abbrev pub HasReached : CheckedBody → Variable → VariableKind → ℕ → ℕ → Type 0
HasReached b v cancel n mask = HasJust (class_of_bit b) (IsCancelAt b.graph b.promises v n) mask
HasReached b v group n mask = HasJust group_class (IsGroupAt b.graph b.promises v n) mask

-- it has a row for each node, and in each the masks that say what is carried there
pub record IsLeast (b : CheckedBody) (states : List (List ℕ)) : Type 0 where
  pub has_rows : HasRows Second b states
  -- the row that stands where the node does
  pub each_row : (k i : ℕ) (place : NodePlace) (row : List ℕ) (v : Variable)
      → slice_get b.order k ≡ Some place
      → slice_get states k ≡ Some row
      → slice_get b.variables i ≡ Some v
      → HasReached b v v.kind place.node (slice_index_or row i 0)
  pub has_reached : (i : ℕ) (v : Variable) (n : ℕ)
      → slice_get b.variables i ≡ Some v
      → n < length b.graph.nodes
      → HasReached b v v.kind n (mask_at b states i n)

-- the body of these paths, whose nodes stand in this order, and of which this is claimed
abbrev pub body_with : Paths → List NodePlace → (ℕ → Bool) → CheckedBody
body_with paths order claims = record {
  edition = paths.edition;
  graph = graph_of paths.code;
  order = order;
  variables = paths.variables;
  promises = paths.promises;
  is_claimed = claims;
}

-- the same of each body of these paths, whatever is claimed of it, where its nodes stand in the order of the text
pub record IsLeastOf (paths : Paths) (states : List (List ℕ)) : Type 0 where
  pub order : List NodePlace
  pub has_each : IsPermutation (places 0 (nodes paths.code)) order
  pub ordered : AreInOrder order
  pub is_least : (claims : ℕ → Bool) → IsLeast (body_with paths order claims) states

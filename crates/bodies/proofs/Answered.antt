-- What was found of each variable answers which of its classes arrive where, and at which nodes.
use Rattle.std.proofs.Common.{◌≡◌, ℕ, ◌≤◌, Bool, List, [], ◌∷◌, length, Some, Contains, refl, subst}
use Rattle.std.specs.Prelude.{slice_get}
use Rattle.bodies.specs.Classified.{TellsClasses, Classifies, cancel_class_after, group_class_after}
use Rattle.bodies.specs.OwnGroups.{literal_group}
use Rattle.bodies.specs.NodeEvents.{IsGraphOf}
use Rattle.bodies.specs.declared.node.NodeEvent.{NodeEvent}
use Rattle.flow.specs.declared.graph.Graph.{Graph as KeptGraph}
use Rattle.flow.specs.GraphOfCode.{nodes}
use Rattle.flow.specs.Walks.{graph_of}
use Rattle.bodies.proofs.ClassesTold.{tells_classes, tells_at_nodes}
use Rattle.bodies.proofs.Numbers.{entry_has, cancels_numbered, groups_numbered}
use Rattle.bodies.specs.AtNodes.{IsCancelAt, IsGroupAt, TellsAtNodes, ClassifiesNodes}
use Rattle.bodies.specs.Flags.{is_marked_flag, cancel_width, cancel_entry, group_width, group_entry}
use Rattle.bodies.specs.Solutions.{FindsCancel, FindsGroup, FindsKind, FindsEach}
use Rattle.meaning.specs.BodyEvents.{Variable}
use Rattle.meaning.specs.Classes.{Promises, CancelClass, entry_cancel, change_cancel, cancel_after, GroupClass, entry_group, change_group, group_after}
use Rattle.meaning.specs.Code.{Occurrence, Code}
use Rattle.meaning.specs.FunctionFacts.{cancel, group}
use Rattle.meaning.specs.Uses.{Event}
use Rattle.bodies.specs.Carried.{TellsReached}
use Rattle.bodies.specs.BitSteps.{cancel_step, group_step}
use Rattle.bodies.specs.Masks.{bit_of_group}
use Rattle.bodies.specs.Bits.{cancel_bit, cancel_class, group_bit, group_class, AreInverseBits, AreInverseGroupBits}

-- What it says of classes

module _ (p : Promises) (groups : List ℕ) (g : KeptGraph NodeEvent) (c : Code Event)
    (is_graph : IsGraphOf c g)
    (among : (n : ℕ) (o : Occurrence Event) (h : ℕ) → slice_get (nodes c) n ≡ Some o → literal_group o.event ≡ Some h
    → Contains groups h)
    (fits : length groups ≤ 12) (inverse : AreInverseBits groups) (group_inverse : AreInverseGroupBits) where
  cancel_reached : (v : Variable) (found : ℕ → ℕ → Bool)
      → FindsCancel p groups g v found
      → TellsReached (graph_of c) (cancel_step p v.number groups) cancel_width
      (cancel_entry v.role ∷ []) found
  cancel_reached v found told =
      subst (λ h. TellsReached h (cancel_step p v.number groups) cancel_width
      (cancel_entry v.role ∷ []) found) is_graph told

  group_reached : (v : Variable) (found : ℕ → ℕ → Bool)
      → FindsGroup p g v found
      → TellsReached (graph_of c) (group_step p v.number) group_width (group_entry v.role ∷ []) found
  group_reached v found told =
      subst (λ h. TellsReached h (group_step p v.number) group_width (group_entry v.role ∷ []) found) is_graph told

  abbrev CancelTold : Variable → (ℕ → CancelClass → Bool) → Type 0
  CancelTold v has = TellsClasses c (cancel_class_after p v) has × TellsAtNodes c (IsCancelAt (graph_of c) p v) has

  abbrev GroupTold : Variable → (ℕ → GroupClass → Bool) → Type 0
  GroupTold v has = TellsClasses c (group_class_after p v) has × TellsAtNodes c (IsGroupAt (graph_of c) p v) has

  cancel_told : (v : Variable) (found : ℕ → ℕ → Bool)
      → FindsCancel p groups g v found
      → CancelTold v (λ n k. is_marked_flag (found n) (cancel_bit groups k))
  cancel_told v found told = (
    tells_classes c (cancel_class groups) (cancel_bit groups) (change_cancel p v.number) (cancel_after p v.number)
        cancel_width (cancels_numbered c p v.number groups inverse among fits)
        (entry_cancel v.role) (cancel_entry v.role) (entry_has groups v.role) found
        (cancel_reached v found told),
    tells_at_nodes c (cancel_class groups) (cancel_bit groups) (change_cancel p v.number) (cancel_after p v.number)
        cancel_width (cancels_numbered c p v.number groups inverse among fits)
        (entry_cancel v.role) (cancel_entry v.role) (entry_has groups v.role) found
        (cancel_reached v found told),
  )

  group_told : (v : Variable) (found : ℕ → ℕ → Bool)
      → FindsGroup p g v found
      → GroupTold v (λ n k. found n (group_bit k))
  group_told v found told = (
    tells_classes c group_class bit_of_group (change_group p v.number) (group_after p v.number)
        group_width (groups_numbered c p v.number group_inverse)
        (entry_group v.role) (group_entry v.role) refl found (group_reached v found told),
    tells_at_nodes c group_class bit_of_group (change_group p v.number) (group_after p v.number)
        group_width (groups_numbered c p v.number group_inverse)
        (entry_group v.role) (group_entry v.role) refl found (group_reached v found told),
  )

  module _ (vs : List Variable) (found : ℕ → ℕ → ℕ → Bool) (all : FindsEach p groups g vs found) where
    cancel_at : (i : ℕ) (v : Variable)
        → slice_get vs i ≡ Some v
        → v.kind ≡ cancel
        → CancelTold v (λ n k. is_marked_flag (found i n) (cancel_bit groups k))
    cancel_at i v e is = cancel_told v (found i) (subst (λ k. FindsKind k p groups g v (found i)) is (all i v e))

    group_at : (i : ℕ) (v : Variable)
        → slice_get vs i ≡ Some v
        → v.kind ≡ group
        → GroupTold v (λ n k. found i n (group_bit k))
    group_at i v e is = group_told v (found i) (subst (λ k. FindsKind k p groups g v (found i)) is (all i v e))

    pub classified : Classifies c p vs
        (λ i n k. is_marked_flag (found i n) (cancel_bit groups k)) (λ i n k. found i n (group_bit k))
    classified = record {
      of_cancel = λ i v e is. (cancel_at i v e is).0;
      of_group = λ i v e is. (group_at i v e is).0;
    }

    pub classified_nodes : ClassifiesNodes c p vs
        (λ i n k. is_marked_flag (found i n) (cancel_bit groups k)) (λ i n k. found i n (group_bit k))
    classified_nodes = record {
      of_cancel = λ i v e is. (cancel_at i v e is).1;
      of_group = λ i v e is. (group_at i v e is).1;
    }

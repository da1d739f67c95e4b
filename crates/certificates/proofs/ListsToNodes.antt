-- A class that walks carry to a node of a code's graph is one that a list of the code leads to, and the other way round.
use Rattle.std.proofs.Common.{◌≡◌, ℕ, List, [], ◌∷◌, Some, Contains, refl, sym, ap, ◌∙◌, subst, inl, inr}
use Rattle.std.specs.Prelude.{slice_get}
use Rattle.bodies.proofs.CarriedFlags.{reached_by_lists}
use Rattle.bodies.specs.AtNodes.{IsCancelAt, IsGroupAt}
use Rattle.bodies.specs.Carried.{IsReached, carried}
use Rattle.flow.specs.GraphOfCode.{nodes}
use Rattle.flow.specs.Walks.{graph_of}
use Rattle.meaning.proofs.Membership.{contains_nil, contains_here, contains_cases}
use Rattle.meaning.specs.BodyEvents.{Variable}
use Rattle.meaning.specs.Classes.{Promises, CancelClass, entry_cancel, change_cancel, cancel_after, GroupClass, entry_group, change_group, group_after}
use Rattle.meaning.specs.Code.{Occurrence, Code}
use Rattle.meaning.specs.Lists.{Reaches}
use Rattle.meaning.specs.Uses.{Event}

pub only : {A : Type 0} (x y : A) → Contains (x ∷ []) y → x ≡ y
only x y h = elim (contains_cases x y [] h) [ inl e ↦ e | inr g ↦ absurd (contains_nil y g) ]

cancel_carried : (p : Promises) (v : ℕ) (k : CancelClass) (t : List (Occurrence Event))
    → carried (change_cancel p v) t k ≡ cancel_after p v k t
cancel_carried p v k [] = refl
cancel_carried p v k (o ∷ t) = cancel_carried p v (change_cancel p v o.event k) t

group_carried : (p : Promises) (v : ℕ) (k : GroupClass) (t : List (Occurrence Event))
    → carried (change_group p v) t k ≡ group_after p v k t
group_carried p v k [] = refl
group_carried p v k (o ∷ t) = group_carried p v (change_group p v o.event k) t

-- a list comes to the occurrence and leaves this class
pub record LeadsTo {K : Type 0}
    (c : Code Event) (after : List (Occurrence Event) → K) (o : Occurrence Event) (k : K)
    : Type 0 where
  pub before : List (Occurrence Event)
  pub reaches : Reaches c before o
  pub is_class : after before ≡ k

-- the class is carried to a node of the occurrence
pub record ComesTo {K : Type 0} (c : Code Event) (IsAt : ℕ → K → Type 0) (o : Occurrence Event) (k : K) : Type 0 where
  pub node : ℕ
  pub is_node : slice_get (nodes c) node ≡ Some o
  pub is_at : IsAt node k

module _ {K : Type 0} (c : Code Event) (change : Event → K → K) (entry : K) (after : List (Occurrence Event) → K)
    (same : (t : List (Occurrence Event)) → carried change t entry ≡ after t) where
  leads : (n : ℕ) (o : Occurrence Event) (k : K)
      → slice_get (nodes c) n ≡ Some o
      → IsReached (graph_of c) change (entry ∷ []) n k
      → LeadsTo c after o k
  leads n o k is r =
      let w = (reached_by_lists Event K c change (entry ∷ [])).each_node n k o is r in
      record {
        before = w.0;
        reaches = w.4;
        is_class = sym (same w.0) ∙ ap (carried change w.0) (only entry w.1 w.2) ∙ w.3;
      }

  comes : (t : List (Occurrence Event)) (o : Occurrence Event)
      → Reaches c t o
      → ComesTo c (IsReached (graph_of c) change (entry ∷ [])) o (after t)
  comes t o l =
      let w = (reached_by_lists Event K c change (entry ∷ [])).each_list t o entry l (contains_here entry []) in
      record {
        node = w.0;
        is_node = w.1;
        is_at = subst (IsReached (graph_of c) change (entry ∷ []) w.0) (same t) w.2;
      }

module _ (c : Code Event) (p : Promises) (v : Variable) where
  abbrev pub cancel_left : List (Occurrence Event) → CancelClass
  cancel_left = cancel_after p v.number (entry_cancel v.role)

  abbrev pub group_left : List (Occurrence Event) → GroupClass
  group_left = group_after p v.number (entry_group v.role)

  pub cancel_leads : (n : ℕ) (o : Occurrence Event) (k : CancelClass)
      → slice_get (nodes c) n ≡ Some o
      → IsCancelAt (graph_of c) p v n k
      → LeadsTo c cancel_left o k
  cancel_leads =
      leads c (change_cancel p v.number) (entry_cancel v.role) cancel_left
      (cancel_carried p v.number (entry_cancel v.role))

  pub cancel_comes : (t : List (Occurrence Event)) (o : Occurrence Event)
      → Reaches c t o
      → ComesTo c (IsCancelAt (graph_of c) p v) o (cancel_left t)
  cancel_comes =
      comes c (change_cancel p v.number) (entry_cancel v.role) cancel_left
      (cancel_carried p v.number (entry_cancel v.role))

  pub group_leads : (n : ℕ) (o : Occurrence Event) (k : GroupClass)
      → slice_get (nodes c) n ≡ Some o
      → IsGroupAt (graph_of c) p v n k
      → LeadsTo c group_left o k
  group_leads =
      leads c (change_group p v.number) (entry_group v.role) group_left
      (group_carried p v.number (entry_group v.role))

  pub group_comes : (t : List (Occurrence Event)) (o : Occurrence Event)
      → Reaches c t o
      → ComesTo c (IsGroupAt (graph_of c) p v) o (group_left t)
  group_comes =
      comes c (change_group p v.number) (entry_group v.role) group_left
      (group_carried p v.number (entry_group v.role))

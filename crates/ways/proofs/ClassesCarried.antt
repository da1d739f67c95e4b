-- What a list makes of the number of a variable's class is the number of what it makes of the class.
use Rattle.std.proofs.Common.{◌≡◌, ℕ, List, Option, Some, refl, sym, subst}
use Rattle.bodies.proofs.ClassNumbers.{cancel_inverse, group_inverse}
use Rattle.bodies.proofs.ClassesTold.{IsNumbered, AreNodes, list_nodes, carried_class}
use Rattle.bodies.proofs.FewVariables.{few_groups}
use Rattle.bodies.proofs.Numbers.{entry_has, cancels_numbered, groups_numbered}
use Rattle.bodies.specs.BitSteps.{bit_after}
use Rattle.bodies.specs.Bits.{cancel_bit, cancel_class as class_of_cancel, group_class as class_of_group}
use Rattle.bodies.specs.Carried.{carried}
use Rattle.bodies.specs.Flags.{cancel_entry, cancel_width, group_entry, group_width}
use Rattle.bodies.specs.Masks.{bit_of_group}
use Rattle.bodies.specs.OwnGroups.{groups_of}
use Rattle.bodies.specs.Places.{HavePlaces}
use Rattle.meaning.specs.BodyEvents.{Variable}
use Rattle.meaning.specs.Classes.{entry_cancel, entry_group, cancel_after, change_cancel, group_after, change_group}
use Rattle.meaning.specs.Code.{Occurrence, Code}
use Rattle.meaning.specs.FunctionFacts.{VariableKind, cancel, group}
use Rattle.meaning.specs.Lists.{Reaches}
use Rattle.meaning.specs.Uses.{Event}
use Rattle.meaning_packages.specs.PathFaults.{Paths, cancel_class, group_class}
use Rattle.ways.specs.ClassSteps.{step_by, class_step, entry_by, class_at_entry}

module _ {K : Type 0} (c : Code Event) (class_of : ℕ → Option K) (flag_of : K → Option ℕ) (change : Event → K → K)
    (after : K → List (Occurrence Event) → K) (width : ℕ)
    (numbered : IsNumbered c class_of flag_of change after width) where
  pub class_carried : (t : List (Occurrence Event)) (k : K) (i : ℕ)
      → AreNodes c t
      → flag_of k ≡ Some i
      → class_of (carried (λ e. bit_after class_of flag_of (change e)) t i) ≡ Some (after k t)
  class_carried t k i all e =
      numbered.told (after k t) (carried (λ e. bit_after class_of flag_of (change e)) t i)
      (carried_class c class_of flag_of change after width numbered t k i all e)

-- the number that the list carries of the variable
abbrev pub number_after : Paths → Variable → List (Occurrence Event) → ℕ
number_after b v t = carried (class_step b.promises (groups_of b.variables) v) t (class_at_entry v)

module _ (b : Paths) (places : HavePlaces b.code b.variables) (v : Variable)
    (t : List (Occurrence Event)) (o : Occurrence Event) (reaches : Reaches b.code t o) where
  abbrev groups : List ℕ
  groups = groups_of b.variables

  abbrev number_by : VariableKind → ℕ
  number_by kind = carried (step_by kind b.promises groups v.number) t (entry_by kind v.role)

  pub cancel_is : v.kind ≡ cancel → class_of_cancel groups (number_after b v t) ≡ Some (cancel_class b v t)
  cancel_is kind =
      subst (λ x. class_of_cancel groups (number_by x) ≡ Some (cancel_class b v t)) (sym kind)
      (class_carried b.code (class_of_cancel groups) (cancel_bit groups) (change_cancel b.promises v.number)
      (cancel_after b.promises v.number) cancel_width
      (cancels_numbered b.code b.promises v.number groups (cancel_inverse groups) places.own_groups
      (few_groups b.variables places.are_few))
      t (entry_cancel v.role) (cancel_entry v.role) (list_nodes b.code t o reaches) (entry_has groups v.role))

  pub group_is : v.kind ≡ group → class_of_group (number_after b v t) ≡ Some (group_class b v t)
  group_is kind =
      subst (λ x. class_of_group (number_by x) ≡ Some (group_class b v t)) (sym kind)
      (class_carried b.code class_of_group bit_of_group (change_group b.promises v.number)
      (group_after b.promises v.number) group_width
      (groups_numbered b.code b.promises v.number group_inverse)
      t (entry_group v.role) (group_entry v.role) (list_nodes b.code t o reaches) refl)

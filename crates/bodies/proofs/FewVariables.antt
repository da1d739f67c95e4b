-- A body that has not too many variables has no more cancel functions and groups than a body may have.
use Rattle.std.proofs.Common.{◌≡◌, ℕ, zero, suc, ◌≤◌, Bool, if◌then◌else◌, List, [], ◌∷◌, ◌++◌, length, filter, refl, ap, arith}
use Rattle.std.specs.Prelude.{not, Some}
use Rattle.bodies.specs.OwnGroups.{group_number, groups_of}
use Rattle.meaning.specs.BodyEvents.{Variable, is_cancel_variable, fault_after, too_many_faults}
use Rattle.meaning.specs.FunctionFacts.{VariableKind, cancel, group}
use Rattle.meaning.specs.Uses.{is_cancel}
use Rattle.meaning.specs.declared.TheConstants.{MOST_CANCELS, MOST_GROUPS}

pub none_at_first : {A : Type 0} (xs ys : List A) → xs ++ ys ≡ [] → xs ≡ []
none_at_first [] ys e = refl
none_at_first (x ∷ xs) ys e = cc

pub none_at_end : {A : Type 0} (xs ys : List A) → xs ++ ys ≡ [] → ys ≡ []
none_at_end [] ys e = e
none_at_end (x ∷ xs) ys e = cc

few_after : (n : ℕ) (vs : List Variable) → length (fault_after n vs) ≤ 0 → length vs ≤ n
few_after n [] l = omega arith
few_after zero (v ∷ vs) l = absurd (omega (arith, l))
few_after (suc n) (v ∷ vs) l = omega (arith, few_after n vs l)

pub few_if : (n : ℕ) (vs : List Variable) → fault_after n vs ≡ [] → length vs ≤ n
few_if n vs e = few_after n vs (let none = ap length e in omega (arith, none))

abbrev pub is_group_variable : Variable → Bool
is_group_variable v = not (is_cancel_variable v)

counted_groups : (kind : VariableKind) (n : ℕ) (v : Variable) (ns : List ℕ) (vs : List Variable)
    → length ns ≡ length vs
    → length (group_number kind n ++ ns) ≡ length (if not (is_cancel (Some kind)) then v ∷ vs else vs)
counted_groups cancel n v ns vs e = e
counted_groups group n v ns vs e = ap suc e

as_many_groups : (vs : List Variable) → length (groups_of vs) ≡ length (filter is_group_variable vs)
as_many_groups [] = refl
as_many_groups (v ∷ vs) =
    counted_groups v.kind v.number v (groups_of vs) (filter is_group_variable vs) (as_many_groups vs)

module _ (vs : List Variable) (few : too_many_faults vs ≡ []) where
  pub few_cancels : length (filter is_cancel_variable vs) ≤ MOST_CANCELS
  few_cancels =
      few_if MOST_CANCELS (filter is_cancel_variable vs)
      (none_at_first (fault_after MOST_CANCELS (filter is_cancel_variable vs))
      (fault_after MOST_GROUPS (filter is_group_variable vs)) few)

  pub few_groups : length (groups_of vs) ≤ MOST_GROUPS
  few_groups =
      let bound = few_if MOST_GROUPS (filter is_group_variable vs)
      (none_at_end (fault_after MOST_CANCELS (filter is_cancel_variable vs))
      (fault_after MOST_GROUPS (filter is_group_variable vs)) few) in
      let same = as_many_groups vs in
      omega (arith, bound, same)

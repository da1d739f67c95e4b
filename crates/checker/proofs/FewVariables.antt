-- A body has not too many variables exactly if states have places for them and bits for its groups.
use Rattle.std.proofs.Common.{◌≡◌, ◌↔◌, ℕ, zero, suc, ◌-◌, ◌≤◌, Bool, true, ◌&&◌, if◌then◌else◌, List, [], ◌∷◌, ◌++◌, length, filter, refl, ap, ◌∙◌, subst, arith, length-append}
use Rattle.std.specs.Prelude.{not, Some, nat_le}
use Rattle.std.proofs.lemmas.Bool.{and_parts, and_from, leb-true, le-leb}
use Rattle.bodies.proofs.FewVariables.{none_at_first, none_at_end, few_if, is_group_variable}
use Rattle.bodies.specs.OwnGroups.{group_number, groups_of}
use Rattle.checker.specs.Certificates.{spare, groups_with_bits}
use Rattle.checker.specs.CertificateTests.{have_places}
use Rattle.checker.specs.Loaded.{number_if, numbers_of}
use Rattle.meaning.specs.BodyEvents.{Variable, is_cancel_variable, fault_after, too_many_faults}
use Rattle.meaning.specs.FunctionFacts.{VariableKind, cancel, group}
use Rattle.meaning.specs.Uses.{UseFault, is_cancel}
use Rattle.meaning.specs.declared.TheConstants.{MOST_CANCELS, MOST_GROUPS}

-- So many, or too many

none_of_both : {A : Type 0} (xs ys : List A) → xs ≡ [] → ys ≡ [] → xs ++ ys ≡ []
none_of_both xs ys e f = ap (λ l. l ++ ys) e ∙ f

none_after : (n : ℕ) (vs : List Variable) → length vs ≤ n → fault_after n vs ≡ []
none_after n [] l = refl
none_after zero (v ∷ vs) l = absurd (omega (arith, l))
none_after (suc n) (v ∷ vs) l = none_after n vs (omega (arith, l))

-- Variables of a kind

counted_cancels : (kind : VariableKind) (n : ℕ) (v : Variable) (ns : List ℕ) (vs : List Variable)
    → length ns ≡ length vs
    → length (number_if cancel kind n ++ ns) ≡ length (if is_cancel (Some kind) then v ∷ vs else vs)
counted_cancels cancel n v ns vs e = ap suc e
counted_cancels group n v ns vs e = e

as_many_cancels : (vs : List Variable) → length (numbers_of cancel vs) ≡ length (filter is_cancel_variable vs)
as_many_cancels [] = refl
as_many_cancels (v ∷ vs) =
    counted_cancels v.kind v.number v (numbers_of cancel vs) (filter is_cancel_variable vs) (as_many_cancels vs)

counted_groups : (kind : VariableKind) (n : ℕ) (v : Variable) (ns : List ℕ) (vs : List Variable)
    → length ns ≡ length vs
    → length (number_if group kind n ++ ns) ≡ length (if not (is_cancel (Some kind)) then v ∷ vs else vs)
counted_groups cancel n v ns vs e = e
counted_groups group n v ns vs e = ap suc e

as_many_groups : (vs : List Variable) → length (numbers_of group vs) ≡ length (filter is_group_variable vs)
as_many_groups [] = refl
as_many_groups (v ∷ vs) =
    counted_groups v.kind v.number v (numbers_of group vs) (filter is_group_variable vs) (as_many_groups vs)

same_number : (kind : VariableKind) (n : ℕ) (ns ms : List ℕ) → ns ≡ ms
    → number_if group kind n ++ ns ≡ group_number kind n ++ ms
same_number cancel n ns ms e = e
same_number group n ns ms e = ap (λ l. n ∷ l) e

pub same_groups : (vs : List Variable) → numbers_of group vs ≡ groups_of vs
same_groups [] = refl
same_groups (v ∷ vs) = same_number v.kind v.number (numbers_of group vs) (groups_of vs) (same_groups vs)

-- The groups that have bits

as_many_spare : (n : ℕ) → length (spare n) ≡ n
as_many_spare zero = refl
as_many_spare (suc n) = ap suc (as_many_spare n)

pub groups_with_bits-count : (vs : List Variable)
    → length (groups_of vs) ≤ MOST_GROUPS
    → length (groups_with_bits vs) ≡ MOST_GROUPS
groups_with_bits-count vs few =
    let all = length-append (groups_of vs) (spare (MOST_GROUPS - length (groups_of vs))) in
    let rest = as_many_spare (MOST_GROUPS - length (groups_of vs)) in
    omega (arith, all, rest, few)

module _ (vs : List Variable) where
  abbrev too_many_cancels : List UseFault
  too_many_cancels = fault_after MOST_CANCELS (filter is_cancel_variable vs)

  abbrev too_many_groups : List UseFault
  too_many_groups = fault_after MOST_GROUPS (filter is_group_variable vs)

  pub few_cancels : too_many_faults vs ≡ [] → length (numbers_of cancel vs) ≤ MOST_CANCELS
  few_cancels few =
      let bound = few_if MOST_CANCELS (filter is_cancel_variable vs) (none_at_first too_many_cancels too_many_groups few) in
      let same = as_many_cancels vs in
      omega (arith, bound, same)

  pub few_own : too_many_faults vs ≡ [] → length (numbers_of group vs) ≤ MOST_GROUPS
  few_own few =
      let bound = few_if MOST_GROUPS (filter is_group_variable vs) (none_at_end too_many_cancels too_many_groups few) in
      let same = as_many_groups vs in
      omega (arith, bound, same)

  pub few_groups : too_many_faults vs ≡ [] → length (groups_of vs) ≤ MOST_GROUPS
  few_groups few = subst (λ ns. length ns ≤ MOST_GROUPS) (same_groups vs) (few_own few)

  pub with_bits : too_many_faults vs ≡ [] → length (groups_with_bits vs) ≡ MOST_GROUPS
  with_bits few = groups_with_bits-count vs (few_groups few)

  pub bits_fit : too_many_faults vs ≡ [] → length (groups_with_bits vs) ≤ 12
  bits_fit few = let all = with_bits few in omega (arith, all)

  none_too_many : length (numbers_of cancel vs) ≤ MOST_CANCELS → length (numbers_of group vs) ≤ MOST_GROUPS
      → too_many_faults vs ≡ []
  none_too_many cancels groups =
      none_of_both too_many_cancels too_many_groups
      (none_after MOST_CANCELS (filter is_cancel_variable vs) (let same = as_many_cancels vs in omega (arith, same, cancels)))
      (none_after MOST_GROUPS (filter is_group_variable vs) (let same = as_many_groups vs in omega (arith, same, groups)))

  abbrev cancels_fit : Bool
  cancels_fit = nat_le (length (numbers_of cancel vs)) MOST_CANCELS

  abbrev own_fit : Bool
  own_fit = nat_le (length (numbers_of group vs)) MOST_GROUPS

  abbrev groups_fit : Bool
  groups_fit = nat_le (length (groups_with_bits vs)) MOST_GROUPS

  pub few_is : (have_places (numbers_of cancel vs) (numbers_of group vs) (groups_with_bits vs) ≡ true)
      ↔ (too_many_faults vs ≡ [])
  few_is = (
    λ e.
        let first = and_parts cancels_fit (own_fit && groups_fit) e in
        let second = and_parts own_fit groups_fit first.1 in
        none_too_many (leb-true (length (numbers_of cancel vs)) MOST_CANCELS first.0)
        (leb-true (length (numbers_of group vs)) MOST_GROUPS second.0),
    λ few.
        and_from cancels_fit (own_fit && groups_fit)
        (le-leb (length (numbers_of cancel vs)) MOST_CANCELS (few_cancels few))
        (and_from own_fit groups_fit (le-leb (length (numbers_of group vs)) MOST_GROUPS (few_own few))
        (le-leb (length (groups_with_bits vs)) MOST_GROUPS (let all = with_bits few in omega (arith, all)))),
  )

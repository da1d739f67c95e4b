-- Variables that are given places one after the other.
use Rattle.std.proofs.Common.{◌≡◌, ℕ, zero, suc, ◌+◌, ◌<◌, ◌≤◌, if◌then◌else◌, List, [], ◌∷◌, ◌++◌, length, filter, take, drop, Option, Some, None, refl, sym, ap, ◌∙◌, subst, arith, inl, inr, append_assoc, length-append}
use Rattle.std.proofs.lemmas.Bool.{cases_eq}
use Rattle.std.proofs.lemmas.List.{length_push, append-nil, take-append-drop}
use Rattle.std.proofs.lemmas.List.Elements.{filter-append}
use Rattle.std.proofs.lemmas.Option.{same_Some, none-some, slice_get_within}
use Rattle.std.specs.Prelude.{slice_get}
use Rattle.bodies.proofs.FewVariables.{few_cancels, few_groups}
use Rattle.bodies.specs.Flags.{cancel_entry, group_entry}
use Rattle.bodies.specs.OwnGroups.{group_number, groups_of}
use Rattle.bodies.specs.Places.{IsPlaced, IsPlacedAs, IsPlacedIf, ArePlaced, AddsCancel, AddsGroup, Adds, IsFull}
use Rattle.bodies.specs.States.{has_bit, cancel_first, group_first}
use Rattle.bodies.specs.declared.places.Places.{Places}
use Rattle.meaning.specs.BodyEvents.{Variable, is_cancel_variable, too_many_faults}
use Rattle.meaning.specs.FunctionFacts.{VariableKind, cancel, group}
use Rattle.meaning.specs.Uses.{is_cancel}

-- Lists that grow

push_last : {X : Type 0} (xs : List X) (x : X) → slice_get (xs ++ x ∷ []) (length xs) ≡ Some x
push_last [] x = refl
push_last (y ∷ xs) x = push_last xs x

push_kept : {X : Type 0} (xs : List X) (x y : X) (i : ℕ) → slice_get xs i ≡ Some y → slice_get (xs ++ x ∷ []) i ≡ Some y
push_kept [] x y i e = absurd (none-some y e)
push_kept (z ∷ xs) x y zero e = e
push_kept (z ∷ xs) x y (suc i) e = push_kept xs x y i e

push_before : {X : Type 0} (xs : List X) (x : X) (i : ℕ) → i < length xs → slice_get (xs ++ x ∷ []) i ≡ slice_get xs i
push_before [] x i l = absurd (omega (arith, l))
push_before (y ∷ xs) x zero l = refl
push_before (y ∷ xs) x (suc i) l = push_before xs x i (omega (arith, l))

take_next : {X : Type 0} (xs : List X) (i : ℕ) (x : X) → slice_get xs i ≡ Some x → take (suc i) xs ≡ take i xs ++ x ∷ []
take_next [] i x e = absurd (none-some x e)
take_next (y ∷ xs) zero x e = ap (λ z. z ∷ []) (same_Some y x e)
take_next (y ∷ xs) (suc i) x e = ap (λ zs. y ∷ zs) (take_next xs i x e)

-- Variables of a kind

module _ (v : Variable) where
  cancels_then : (us : List Variable) → v.kind ≡ cancel
      → length (filter is_cancel_variable (us ++ v ∷ [])) ≡ length (filter is_cancel_variable us) + 1
  cancels_then us is =
      ap length (filter-append is_cancel_variable us (v ∷ []))
      ∙ length-append (filter is_cancel_variable us) (filter is_cancel_variable (v ∷ []))
      ∙ ap (λ k. length (filter is_cancel_variable us) + length (if is_cancel (Some k) then v ∷ [] else [])) is

  cancels_same : (us : List Variable) → v.kind ≡ group
      → length (filter is_cancel_variable (us ++ v ∷ [])) ≡ length (filter is_cancel_variable us)
  cancels_same us is =
      ap length (filter-append is_cancel_variable us (v ∷ []))
      ∙ length-append (filter is_cancel_variable us) (filter is_cancel_variable (v ∷ []))
      ∙ ap (λ k. length (filter is_cancel_variable us) + length (if is_cancel (Some k) then v ∷ [] else [])) is
      ∙ omega arith

  groups_more : (us : List Variable) → groups_of (us ++ v ∷ []) ≡ groups_of us ++ group_number v.kind v.number
  groups_more [] = append-nil (group_number v.kind v.number)
  groups_more (u ∷ us) =
      ap (λ ns. group_number u.kind u.number ++ ns) (groups_more us)
      ∙ sym (append_assoc (group_number u.kind u.number) (groups_of us) (group_number v.kind v.number))

  groups_same : (us : List Variable) → v.kind ≡ cancel → groups_of (us ++ v ∷ []) ≡ groups_of us
  groups_same us is =
      groups_more us ∙ ap (λ k. groups_of us ++ group_number k v.number) is ∙ append-nil (groups_of us)

  groups_then : (us : List Variable) → v.kind ≡ group → groups_of (us ++ v ∷ []) ≡ groups_of us ++ v.number ∷ []
  groups_then us is = groups_more us ∙ ap (λ k. groups_of us ++ group_number k v.number) is

-- One more

-- a place stays, where its bits do
stays : (count : ℕ) (first_of : ℕ → ℕ) (numbers more words after : List ℕ) (number first only : ℕ)
    → ((k n : ℕ) → slice_get numbers k ≡ Some n → slice_get more k ≡ Some n)
    → ((k bit : ℕ) → k < length numbers → bit < count → has_bit after (first_of k + bit) ≡ has_bit words (first_of k + bit))
    → IsPlaced count first_of numbers words number first only
    → IsPlaced count first_of more after number first only
stays count first_of numbers more words after number first only kept same h = record {
  place = h.place;
  is_number = kept h.place number h.is_number;
  is_first = h.is_first;
  entry = λ bit l.
      ap (λ f. has_bit after (f + bit)) h.is_first
      ∙ same h.place bit (slice_get_within numbers h.place number h.is_number) l
      ∙ ap (λ f. has_bit words (f + bit)) (sym h.is_first)
      ∙ h.entry bit l;
}

module _ (vs : List Variable) (count : ℕ) (v : Variable) (a b : Places)
    (is_next : slice_get vs count ≡ Some v) (h : ArePlaced vs count a) where
  -- what is so of each variable before, and of the next one, is so of all so far
  each_so_far : (first : ℕ)
      → b.firsts.items ≡ a.firsts.items ++ first ∷ []
      → ((u : Variable) (f : ℕ) (kind : VariableKind) → IsPlacedAs a u f kind → IsPlacedAs b u f kind)
      → IsPlacedAs b v first v.kind
      → (i : ℕ) (u : Variable)
      → i < suc count
      → slice_get vs i ≡ Some u
      → IsPlacedIf b u (slice_get b.firsts.items i)
  each_so_far first are keep new i u l is =
      elim (cases_eq i count) [
        | inl same ↦
            let its : v ≡ u = same_Some v u (sym is_next ∙ ap (slice_get vs) (sym same) ∙ is) in
            let there : slice_get b.firsts.items i ≡ Some first =
            ap (λ fs. slice_get fs i) are
            ∙ ap (slice_get (a.firsts.items ++ first ∷ [])) (same ∙ sym h.counted)
            ∙ push_last a.firsts.items first in
            subst (IsPlacedIf b u) (sym there)
            (subst (λ (w : Variable). IsPlacedAs b w first w.kind) its new)
        | inr other ↦
            let sooner : i < count = omega (arith, l, other) in
            let there : slice_get b.firsts.items i ≡ slice_get a.firsts.items i =
            ap (λ fs. slice_get fs i) are
            ∙ push_before a.firsts.items first i (subst (λ n. i < n) (sym h.counted) sooner) in
            subst (IsPlacedIf b u) (sym there) (kept (slice_get a.firsts.items i) (h.each i u sooner is))
      ]
    where
      kept : (o : Option ℕ) → IsPlacedIf a u o → IsPlacedIf b u o
      kept None e = e
      kept (Some f) e = keep u f u.kind e

  counted_now : (first : ℕ) → b.firsts.items ≡ a.firsts.items ++ first ∷ [] → length b.firsts.items ≡ suc count
  counted_now first are =
      let long = length_push a.firsts.items first in
      let was = h.counted in
      let now = ap length are in
      omega (arith, long, was, now)

  -- the numbers of the variables so far, with the next one
  one_more : take (suc count) vs ≡ take count vs ++ v ∷ []
  one_more = take_next vs count v is_next

  one_cancel : v.kind ≡ cancel → AddsCancel v.number (cancel_entry v.role) a b
      → length b.cancels.items ≡ length (filter is_cancel_variable (take (suc count) vs))
  one_cancel is adds =
      let long = ap length adds.numbers ∙ length_push a.cancels.items v.number in
      let was = h.as_many in
      let now = ap (λ us. length (filter is_cancel_variable us)) one_more ∙ cancels_then v (take count vs) is in
      omega (arith, long, was, now)

  no_group : v.kind ≡ cancel → groups_of (take (suc count) vs) ≡ groups_of (take count vs)
  no_group is = ap groups_of one_more ∙ groups_same v (take count vs) is

  no_cancel : v.kind ≡ group
      → length (filter is_cancel_variable (take (suc count) vs)) ≡ length (filter is_cancel_variable (take count vs))
  no_cancel is = ap (λ us. length (filter is_cancel_variable us)) one_more ∙ cancels_same v (take count vs) is

  one_group : v.kind ≡ group → groups_of (take (suc count) vs) ≡ groups_of (take count vs) ++ v.number ∷ []
  one_group is = ap groups_of one_more ∙ groups_then v (take count vs) is

  module _ (adds : AddsCancel v.number (cancel_entry v.role) a b) where
    keep_by_cancel : (u : Variable) (f : ℕ) (kind : VariableKind)
        → IsPlacedAs a u f kind
        → IsPlacedAs b u f kind
    keep_by_cancel u f cancel e =
        stays 16 cancel_first a.cancels.items b.cancels.items a.entry.words b.entry.words u.number f
        (cancel_entry u.role)
        (λ k n is. ap (λ ns. slice_get ns k) adds.numbers ∙ push_kept a.cancels.items v.number n k is)
        (λ k bit l small. adds.entry.others (cancel_first k + bit) (λ from. absurd (omega (arith, from, l, small)))) e
    keep_by_cancel u f group e =
        let fits = adds.fits in
        stays 4 group_first a.groups.items b.groups.items a.entry.words b.entry.words u.number f (group_entry u.role)
        (λ k n is. ap (λ ns. slice_get ns k) adds.others ∙ is)
        (λ k bit l small. adds.entry.others (group_first k + bit) (λ _. omega (arith, fits))) e

    new_cancel : IsPlacedAs b v (cancel_first (length a.cancels.items)) cancel
    new_cancel = record {
      place = length a.cancels.items;
      is_number = ap (λ ns. slice_get ns (length a.cancels.items)) adds.numbers ∙ push_last a.cancels.items v.number;
      is_first = refl;
      entry = adds.entry.here;
    }

    pub cancel_placed : v.kind ≡ cancel → ArePlaced vs (suc count) b
    cancel_placed is = record {
      counted = counted_now (cancel_first (length a.cancels.items)) adds.firsts;
      as_many = one_cancel is adds;
      are_groups = adds.others ∙ h.are_groups ∙ sym (no_group is);
      cancels_fit =
          let long = ap length adds.numbers ∙ length_push a.cancels.items v.number in
          let fits = adds.fits in
          omega (arith, long, fits);
      groups_fit = subst (λ ns. length ns ≤ 12) (sym adds.others) h.groups_fit;
      each = each_so_far (cancel_first (length a.cancels.items)) adds.firsts keep_by_cancel
          (subst (IsPlacedAs b v (cancel_first (length a.cancels.items))) (sym is) new_cancel);
    }

  module _ (adds : AddsGroup v.number (group_entry v.role) a b) where
    keep_by_group : (u : Variable) (f : ℕ) (kind : VariableKind)
        → IsPlacedAs a u f kind
        → IsPlacedAs b u f kind
    keep_by_group u f cancel e =
        let fits = h.cancels_fit in
        stays 16 cancel_first a.cancels.items b.cancels.items a.entry.words b.entry.words u.number f
        (cancel_entry u.role)
        (λ k n is. ap (λ ns. slice_get ns k) adds.others ∙ is)
        (λ k bit l small. adds.entry.others (cancel_first k + bit) (λ from. absurd (omega (arith, from, l, small, fits)))) e
    keep_by_group u f group e =
        stays 4 group_first a.groups.items b.groups.items a.entry.words b.entry.words u.number f (group_entry u.role)
        (λ k n is. ap (λ ns. slice_get ns k) adds.numbers ∙ push_kept a.groups.items v.number n k is)
        (λ k bit l small. adds.entry.others (group_first k + bit) (λ from. absurd (omega (arith, from, l, small)))) e

    new_group : IsPlacedAs b v (group_first (length a.groups.items)) group
    new_group = record {
      place = length a.groups.items;
      is_number = ap (λ ns. slice_get ns (length a.groups.items)) adds.numbers ∙ push_last a.groups.items v.number;
      is_first = refl;
      entry = adds.entry.here;
    }

    pub group_placed : v.kind ≡ group → ArePlaced vs (suc count) b
    group_placed is = record {
      counted = counted_now (group_first (length a.groups.items)) adds.firsts;
      as_many = ap length adds.others ∙ h.as_many ∙ sym (no_cancel is);
      are_groups = adds.numbers ∙ ap (λ ns. ns ++ v.number ∷ []) h.are_groups ∙ sym (one_group is);
      cancels_fit = subst (λ ns. length ns ≤ 48) (sym adds.others) h.cancels_fit;
      groups_fit =
          let long = ap length adds.numbers ∙ length_push a.groups.items v.number in
          let fits = adds.fits in
          omega (arith, long, fits);
      each = each_so_far (group_first (length a.groups.items)) adds.firsts keep_by_group
          (subst (IsPlacedAs b v (group_first (length a.groups.items))) (sym is) new_group);
    }

  placed_as : (kind : VariableKind) → v.kind ≡ kind → Adds v kind a b → ArePlaced vs (suc count) b
  placed_as cancel is adds = cancel_placed adds is
  placed_as group is adds = group_placed adds is

  pub placed : Adds v v.kind a b → ArePlaced vs (suc count) b
  placed adds = placed_as v.kind refl adds

-- Where there are few variables, there is a place for each

module _ (vs : List Variable) (few : too_many_faults vs ≡ []) where
  module _ (count : ℕ) (s : Places) (h : ArePlaced vs count s) (v : Variable) (is_next : slice_get vs count ≡ Some v) where
    split : vs ≡ (take count vs ++ v ∷ []) ++ drop (suc count) vs
    split =
        sym (take-append-drop (suc count) vs)
        ∙ ap (λ us. us ++ drop (suc count) vs) (take_next vs count v is_next)

    full_of : (kind : VariableKind) → v.kind ≡ kind → IsFull kind s → ⊥
    full_of cancel is full =
        let all = ap (λ us. length (filter is_cancel_variable us)) split
        ∙ ap length (filter-append is_cancel_variable (take count vs ++ v ∷ []) (drop (suc count) vs))
        ∙ length-append (filter is_cancel_variable (take count vs ++ v ∷ [])) (filter is_cancel_variable (drop (suc count) vs)) in
        let one = cancels_then v (take count vs) is in
        let was = h.as_many in
        let most = few_cancels vs few in
        omega (arith, all, one, was, most, full)
    full_of group is full =
        let all = ap (λ us. length (groups_of us)) split
        ∙ ap length (groups_append (take count vs ++ v ∷ []) (drop (suc count) vs))
        ∙ length-append (groups_of (take count vs ++ v ∷ [])) (groups_of (drop (suc count) vs)) in
        let one = ap length (groups_then v (take count vs) is)
        ∙ length-append (groups_of (take count vs)) (v.number ∷ []) in
        let was = ap length h.are_groups in
        let most = few_groups vs few in
        omega (arith, all, one, was, most, full)
      where
        groups_append : (xs ys : List Variable) → groups_of (xs ++ ys) ≡ groups_of xs ++ groups_of ys
        groups_append [] ys = refl
        groups_append (x ∷ xs) ys =
            ap (λ ns. group_number x.kind x.number ++ ns) (groups_append xs ys)
            ∙ sym (append_assoc (group_number x.kind x.number) (groups_of xs) (groups_of ys))

    pub not_full : IsFull v.kind s → ⊥
    not_full full = full_of v.kind refl full

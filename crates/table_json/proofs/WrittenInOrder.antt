-- A list whose keys rise is the only one that is the same in order.
use Rattle.std.proofs.Common.{◌≡◌, ℕ, zero, suc, ◌+◌, ◌<◌, ◌⊎◌, inl, inr, Bool, true, false, List, [], ◌∷◌, map, length, get_or, refl, sym, ap, subst, ◌∙◌, add-one, arith}
use Rattle.std.specs.Prelude.{if◌then◌else◌}
use Rattle.std.specs.Cmp.{IsTotalOrder}
use Rattle.std.specs.declared.cmp.Ordering.{Ordering}
use Rattle.std.specs.List.{AllByRecursion, AllZip, filter, list_all}
use Rattle.std.specs.List.Sorted.{IsSortedByKey}
use Rattle.std.specs.Ordering.{is_lt}
use Rattle.std.proofs.lemmas.Cmp.{nat_cmp_total, nat_list_cmp_total}
use Rattle.std.proofs.lemmas.List.Sorted.{IsPermutation-refl}
use Rattle.std.proofs.lemmas.Bool.{and_parts}
use Rattle.std.proofs.lemmas.List.{get_or-map, length-map}
use Rattle.table_json.specs.Tables.{Entry, Rise, HasOrder, by_bytes, itself, name_of, position_of}
use Rattle.table_json.specs.WrittenTables.{says_something, IsOrdered, IsWrittenAs, TablesInOrderAreWritten}
use Rattle.table_json.proofs.Arranged.{rise_of_adjacent, none_arranged, one_arrangement}

module _ {A K : Type 0} {cmp : K → K → Ordering} (total : IsTotalOrder cmp) (key : A → K) where
  abbrev below : A → A → Bool
  below x y = is_lt (cmp (key x) (key y))

  abbrev Falls : List A → Type 0
  Falls xs = (k : ℕ) × (suc k < length xs) × ((d : A) → false ≡ below (get_or xs k d) (get_or xs (suc k) d))

  abbrev Steps : List A → Type 0
  Steps xs = (k : ℕ) (d : A) → suc k < length xs → true ≡ below (get_or xs k d) (get_or xs (suc k) d)

  steps_or_falls : (xs : List A) → Steps xs ⊎ Falls xs
  steps_or_falls [] = inl (λ k d within. absurd (omega (arith, within)))
  steps_or_falls (x ∷ []) = inl (λ k d within. absurd (omega (arith, within)))
  steps_or_falls (x ∷ y ∷ zs) = by (below x y) refl (steps_or_falls (y ∷ zs))
    where
      by : (b : Bool) → b ≡ below x y → Steps (y ∷ zs) ⊎ Falls (y ∷ zs) → Steps (x ∷ y ∷ zs) ⊎ Falls (x ∷ y ∷ zs)
      by false e rest = inr (0, omega arith, λ d. e)
      by true e (inl steps) = inl go
        where
          go : Steps (x ∷ y ∷ zs)
          go zero d within = e
          go (suc k) d within = steps k d (omega (arith, within))
      by true e (inr falls) =
          let within = falls.1 in
          inr (suc falls.0, omega (arith, within), λ d. falls.2 d)

  pub ordered_is : (given kept : List A) → Rise cmp key given → IsOrdered cmp key given kept → kept ≡ given
  ordered_is given kept rise ordered = by (steps_or_falls kept)
    where
      by : Steps kept ⊎ Falls kept → kept ≡ given
      by (inl steps) =
          one_arrangement total key given kept given
          record {
            same = ordered.same;
            rise =
                rise_of_adjacent total key kept
                (λ k d within. steps k d (omega (arith, within))
                ∙ ap (λ m. below (get_or kept k d) (get_or kept m d)) (sym (add-one k)));
          }
          record { same = IsPermutation-refl given; rise = rise }
      by (inr falls) =
          let k = falls.0 in
          let within = falls.1 in
          absurd (none_arranged total key given kept ordered.same ordered.in_order (
            k,
            omega (arith, within),
            λ d. falls.2 d ∙ ap (λ m. below (get_or kept k d) (get_or kept m d)) (sym (add-one k)),
          )
          (map key given)
          (IsPermutation-refl (map key given)) rise)

-- What is written of a table in order

entry_as_it_stands : (f w : Entry) → HasOrder f → IsWrittenAs f w → w ≡ f
entry_as_it_stands f w order is = λ i. record {
  name = is.is_name i;
  gives = ordered_is nat_cmp_total itself f.gives w.gives order.gives_rise is.are_gives i;
  causes = ordered_is nat_cmp_total itself f.causes w.causes order.causes_rise is.are_causes i;
  params = ordered_is nat_cmp_total position_of f.params w.params order.params_rise is.are_params i;
}

entries_as_they_stand : (fs ws : List Entry) → AllByRecursion HasOrder fs → AllZip IsWrittenAs fs ws → ws ≡ fs
entries_as_they_stand [] [] order h = refl
entries_as_they_stand [] (w ∷ ws) order h = absurd h
entries_as_they_stand (f ∷ fs) [] order h = absurd h
entries_as_they_stand (f ∷ fs) (w ∷ ws) order h =
    λ i. entry_as_it_stands f w order.0 h.0 i ∷ entries_as_they_stand fs ws order.1 h.1 i

all_told : (fs : List Entry) → list_all says_something fs ≡ true → filter says_something fs ≡ fs
all_told [] e = refl
all_told (f ∷ fs) e =
    let parts = and_parts (says_something f) (list_all says_something fs) e in
    ap (λ b. if b then f ∷ filter says_something fs else filter says_something fs) parts.0 ∙ ap (λ rest. f ∷ rest) (all_told fs parts.1)

pub written_as_it_stands : TablesInOrderAreWritten
written_as_it_stands table written are order told =
    let of_table = subst (λ fs. IsOrdered by_bytes name_of fs are.told) (all_told table told) are.are_told in
    let same = ordered_is nat_list_cmp_total name_of table are.told order.names_rise of_table in
    entries_as_they_stand table written order.each_in_order
    (subst (λ fs. AllZip IsWrittenAs fs written) same are.each)

-- What is seen of a sorted list is sorted

pub sorted_seen : {X A K : Type 0} (cmp : K → K → Ordering) (seen : X → A) (key : A → K) (xs : List X)
    → IsSortedByKey (λ x. key (seen x)) cmp xs
    → IsSortedByKey key cmp (map seen xs)
sorted_seen cmp seen key [] h k d low within = absurd (omega (arith, within))
sorted_seen cmp seen key (x ∷ xs) h k d low within =
    let counted : length (map seen (x ∷ xs)) ≡ length (x ∷ xs) = length-map (x ∷ xs) seen in
    let next : k + 1 < length (x ∷ xs) = omega (arith, within, counted) in
    ap (λ a. is_lt (cmp (key a) (key (get_or (map seen (x ∷ xs)) k d)))) (get_or-map seen (x ∷ xs) (k + 1) x d next)
    ∙ (ap (λ a. is_lt (cmp (key (seen (get_or (x ∷ xs) (k + 1) x))) (key a)))
    (get_or-map seen (x ∷ xs) k x d (omega (arith, next)))
    ∙ h k x low next)

-- The order of the given packages: which of them have no rank.
use Rattle.std.proofs.Common.{◌≡◌, ℕ, ◌<◌, Bool, true, List, length, Option, Some, None, is_some, refl, sym, ap, ◌∙◌, subst}
use Rattle.std.specs.Prelude.{◌↔◌, slice_get}
use Rattle.std.proofs.lemmas.Bool.{false≢true}
use Rattle.std.proofs.lemmas.List.{length-map}
use Rattle.std.proofs.lemmas.Option.{slice_get_within}
use Rattle.imports.specs.Ranks.{HasRank, IsOrder}
use Rattle.imports.specs.Settling.{place_from}
use Rattle.imports.proofs.GivenImports.{first_there}
use Rattle.whole_packages.specs.WholeEntries.{is_marked, is_set, is_set_at, IsUnranked}
use Rattle.meaning_reports.proofs.ImportsOf.{given_in_lists, list_item}
use Rattle.meaning_reports.specs.Loaded.{LoadedPackage, import_list}

-- marked are the packages that the order gives no rank: so those that have none
module _ (ps : List LoadedPackage) (rank : ℕ → Option ℕ) (ranked : List ℕ) (order : IsOrder (import_list ps) rank ranked)
    (count : ℕ) (same : count ≡ length ps) (marks : List Bool)
    (are : (j : ℕ) → (is_set (slice_get marks j) ≡ true) ↔ ((j < count) × (rank j ≡ None)))
    (places : List ℕ → Option ℕ)
    (are_places : (path : List ℕ) → places path ≡ place_from path (import_list ps) 0) where
  has_none : (j : ℕ) → j < count → rank j ≡ None → HasRank (import_list ps) j → ⊥
  has_none j low none has =
      false≢true (ap is_some (sym none)
      ∙ (order.ranks j).1 (subst (λ n. j < n) (same ∙ sym (length-map ps (list_item ps))) low, has))

  gives_none : (j : ℕ) → (HasRank (import_list ps) j → ⊥) → (o : Option ℕ) → rank j ≡ o → o ≡ None
  gives_none j none None e = refl
  gives_none j none (Some r) e = absurd (none ((order.ranks j).0 (ap is_some e)).1)

  marked_is : (path : List ℕ) (o : Option ℕ) → places path ≡ o → is_set_at o marks ≡ true → IsUnranked ps path
  marked_is path None e m = absurd (false≢true m)
  marked_is path (Some j) e m =
      let h = (are j).0 m in
      record { place = j; is_place = sym (are_places path) ∙ e; no_rank = has_none j h.0 h.1 }

  is_marked_so : (path : List ℕ) → IsUnranked ps path → is_marked places marks path ≡ true
  is_marked_so path h =
      let first = first_there (import_list ps) path h.place h.is_place in
      let q = given_in_lists ps h.place first.found first.is_found in
      let low = slice_get_within ps h.place q.0 q.1 in
      ap (λ o. is_set_at o marks) (are_places path ∙ h.is_place)
      ∙ (are h.place).1 (subst (λ n. h.place < n) (sym same) low, gives_none h.place h.no_rank (rank h.place) refl)

  pub order_so : (path : List ℕ) → (is_marked places marks path ≡ true) ↔ IsUnranked ps path
  order_so path = (λ e. marked_is path (places path) refl e, is_marked_so path)

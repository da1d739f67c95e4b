-- The ranks that are given at the end are an order.
use Rattle.std.proofs.Common.{◌≡◌, ℕ, ◌+◌, ◌<◌, ◌≤◌, true, ◌⊎◌, inl, inr, List, length, Option, Some, None, is_some, refl, ap, ◌∙◌, sym, subst, arith, true≢false}
use Rattle.std.specs.Prelude.{slice_get}
use Rattle.std.proofs.lemmas.Bool.{cases_lt}
use Rattle.std.proofs.lemmas.List.{length-map, get_or_past}
use Rattle.std.proofs.lemmas.Option.{same_Some, none-some}
use Rattle.imports.specs.Ranks.{Package, Imports, Chain, ends, goes_on, HasRank, IsOrder}
use Rattle.imports.specs.Settling.{Ranking, places_of, place_from, given_imports, begun, settled, served_by}
use Rattle.imports.proofs.Chains.{cannot_be_without}
use Rattle.imports.proofs.GivenImports.{table_imports, imports_table, imported_there}
use Rattle.imports.proofs.Settled.{rank_at, Bounded, Going, Turned, fewer, settle, served, start, stuck}

module _ (packages : List Package) where
  same_length : length (given_imports packages) ≡ length packages
  same_length = length-map packages (places_of (λ path. place_from path packages 0))

  bounded : Bounded (given_imports packages)
  bounded = record {
    below = λ i j c. subst (λ n. j < n) (sym same_length) (imported_there packages i j (table_imports packages i j c));
  }

  -- The loops

  pub begins : (given : List (List ℕ)) (s : Ranking)
      → given ≡ given_imports packages
      → s ≡ begun given
      → Going (given_imports packages) 0 (λ i. 0 ≤ i) s
  begins given s e is = subst (Going (given_imports packages) 0 (λ i. 0 ≤ i)) (sym (is ∙ ap begun e)) (start (given_imports packages))

  pub settles : (p : ℕ) (s t : Ranking)
      → Going (given_imports packages) 0 (λ i. p ≤ i) s
      → t ≡ settled p s
      → Going (given_imports packages) 0 (λ i. p + 1 ≤ i) t
  settles p s t h is =
      subst (Going (given_imports packages) 0 (λ i. p + 1 ≤ i)) (sym is)
      (settle (given_imports packages) bounded 0 (λ i. p + 1 ≤ i) s p
      (fewer (given_imports packages) bounded 0 (λ i. (i ≡ p) ⊎ (p + 1 ≤ i)) (λ i. p ≤ i) s
      (λ i _ l. elim (cases_lt p i) [
        | inl more ↦ inr (omega arith)
        | inr le ↦ inl (omega arith)
      ])
      h))

  pub all_settled : (n : ℕ) (s : Ranking)
      → length packages ≤ n
      → Going (given_imports packages) 0 (λ i. n ≤ i) s
      → Turned (given_imports packages) 0 s
  all_settled n s past h =
      let done = fewer (given_imports packages) bounded 0 (λ _. ⊥) (λ i. n ≤ i) s
      (λ i l m. let long : length (given_imports packages) ≡ length packages = same_length in absurd (omega arith)) h in
      record { keeps = done.keeps; attends = done.attends }

  pub serves : (k : ℕ) (s t : Ranking)
      → Turned (given_imports packages) k s
      → t ≡ served_by (slice_get s.ranked k) s
      → Turned (given_imports packages) (k + 1) t
  serves k s t h is =
      subst (Turned (given_imports packages) (k + 1)) (sym is)
      (served (given_imports packages) bounded k s h (slice_get s.ranked k) refl)

  -- The order

  module _ (s : Ranking) (k : ℕ) (all : k ≡ length packages) (h : Turned (given_imports packages) k s) where
    first : (i j r : ℕ) → Imports packages i j → rank_at s.ranks i ≡ Some r
        → (q : ℕ) × (rank_at s.ranks j ≡ Some q) × (q < r)
    first i j r a e = h.keeps.before i j r (imports_table packages i j a) e

    down : (i j r : ℕ) → Chain packages i j → rank_at s.ranks i ≡ Some r
        → (q : ℕ) × (rank_at s.ranks j ≡ Some q) × (q ≤ r)
    down i j r ends e = (r, e, omega arith)
    down i j r (goes_on {j = m} a c) e =
        let one = first i m r a e in
        let rest = down m j one.0 c one.1 in
        let low : one.0 < r = one.2 in
        let lower : rest.0 ≤ one.0 = rest.2 in
        (rest.0, rest.1, omega arith)

    sound : (i r : ℕ) → rank_at s.ranks i ≡ Some r → HasRank packages i
    sound i r e j m c a back =
        let at_j = down i j r c e in
        let at_m = first j m at_j.0 a at_j.1 in
        let again = down m j at_m.0 back at_m.1 in
        let low : at_m.0 < at_j.0 = at_m.2 in
        let lower : again.0 ≤ at_m.0 = again.2 in
        let same : again.0 ≡ at_j.0 = same_Some again.0 at_j.0 (sym again.1 ∙ at_j.1) in
        omega arith

    there : (i r : ℕ) → rank_at s.ranks i ≡ Some r → i < length packages
    there i r e =
        elim (cases_lt i (length packages)) [
          | inl l ↦ l
          | inr past ↦
              let long : length s.ranks ≡ length (given_imports packages) = h.keeps.ranks in
              let same : length (given_imports packages) ≡ length packages = same_length in
              let out : length s.ranks ≤ i = omega arith in
              absurd (none-some r (sym (get_or_past s.ranks i None out) ∙ e))
        ]

    further : (m : ℕ) → m < length packages → rank_at s.ranks m ≡ None
        → (n : ℕ) × Imports packages m n × (n < length packages) × (rank_at s.ranks n ≡ None)
    further m l none =
        let turned : Turned (given_imports packages) (length (given_imports packages)) s =
        subst (λ n. Turned (given_imports packages) n s) (all ∙ sym same_length) h in
        let next = stuck (given_imports packages) s turned m (subst (λ n. m < n) (sym same_length) l) none in
        let a = table_imports packages m next.0 next.1 in
        (next.0, a, imported_there packages m next.0 a, next.2)

    complete : (i : ℕ) (o : Option ℕ) → rank_at s.ranks i ≡ o → i < length packages → HasRank packages i → is_some o ≡ true
    complete i (Some r) e l ranked = refl
    complete i None e l ranked =
        absurd (cannot_be_without packages i ranked (λ m. rank_at s.ranks m ≡ None) further l e)

    known : (i : ℕ) (o : Option ℕ) → rank_at s.ranks i ≡ o → is_some o ≡ true → (i < length packages) × HasRank packages i
    known i None e f = absurd (true≢false (sym f))
    known i (Some r) e f = (there i r e, sound i r e)

    pub ordered : IsOrder packages (rank_at s.ranks) s.ranked
    ordered = record {
      ranks = λ i. (
        known i (rank_at s.ranks i) refl,
        λ w. complete i (rank_at s.ranks i) refl w.0 w.1,
      );
      imports_first = first;
      places = λ i r. (h.keeps.to_place i r, h.keeps.from_place i r);
    }

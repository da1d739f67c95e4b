-- The row of each node, and the groups that have bits.
use Rattle.std.proofs.Common.{◌≡◌, ◌≢◌, ◌==◌, ℕ, zero, suc, ◌+◌, ◌-◌, ◌<◌, ◌≤◌, Bool, true, false, ◌&&◌, if◌then◌else◌, List, [], ◌∷◌, ◌++◌, length, get_or, drop, set, replicate, Option, Some, None, is_none, nat_lt, Contains, IsPermutation, refl, sym, ap, ◌∙◌, subst, true≢false, arith, inl, inr, eq-eqb, append_assoc, get_or-set_same, get_or-set_other, length-set}
use Rattle.std.proofs.lemmas.Bool.{cases_lt, cases_eq, lt-ltb, and_right, and_from, ne_eqb}
use Rattle.std.proofs.lemmas.List.{drop_more, drop_all, get_or_past, get_or-replicate, length-replicate}
use Rattle.std.proofs.lemmas.List.Sorted.{IsPermutation-sym, Contains-permutation}
use Rattle.meaning.proofs.Membership.{contains_nil, contains_here, contains_there, contains_cases}
use Rattle.meaning.specs.Code.{Occurrence}
use Rattle.meaning.specs.OuterBlocks.{or_else}
use Rattle.flow.specs.declared.order.NodePlace.{NodePlace}
use Rattle.flow.specs.NodeOrder.{places}
use Rattle.checker.specs.Certificates.{row_from, greatest, spare}
use Rattle.checker.specs.LaidOutViews.{row_of, with_row, RowsOfNodes}

-- One row more

if_first : {A : Type 0} (t : Bool) (x y : A) → t ≡ true → (if t then x else y) ≡ x
if_first true x y e = refl
if_first false x y e = absurd (true≢false (sym e))

if_second : {A : Type 0} (t : Bool) (x y : A) → t ≡ false → (if t then x else y) ≡ y
if_second true x y e = absurd (true≢false e)
if_second false x y e = refl

module _ (node row : ℕ) (rows : List (Option ℕ)) where
  abbrev is_free : Bool
  is_free = nat_lt node (length rows) && is_none (row_of rows node)

  abbrev is_set : List (Option ℕ)
  is_set = set rows node (Some row)

  with_row-length : length (with_row node row rows) ≡ length rows
  with_row-length = by is_free
    where
      by : (t : Bool) → length (if t then is_set else rows) ≡ length rows
      by true = length-set rows node (Some row)
      by false = refl

  with_row-other : (n : ℕ) → n ≢ node → row_of (with_row node row rows) n ≡ row_of rows n
  with_row-other n apart = by is_free
    where
      by : (t : Bool) → row_of (if t then is_set else rows) n ≡ row_of rows n
      by true = get_or-set_other rows node n (Some row) None apart
      by false = refl

  with_row-same : node < length rows → row_of (with_row node row rows) node ≡ or_else (row_of rows node) (Some row)
  with_row-same within = by (row_of rows node) refl
    where
      by : (o : Option ℕ) → row_of rows node ≡ o → row_of (with_row node row rows) node ≡ or_else o (Some row)
      by None is =
          ap (λ l. row_of l node)
          (if_first is_free is_set rows
          (and_from (nat_lt node (length rows)) (is_none (row_of rows node)) (lt-ltb node (length rows) within)
          (ap is_none is)))
          ∙ get_or-set_same rows node (Some row) None within
      by (Some r) is =
          ap (λ l. row_of l node)
          (if_second is_free is_set rows
          (and_right (nat_lt node (length rows)) (is_none (row_of rows node)) (ap is_none is)))
          ∙ is

-- The rows of all nodes

-- what was found so far, with what is left, is the whole
pub record RowsSoFar (nodes : ℕ) (order : List NodePlace) (row : ℕ) (rows : List (Option ℕ)) : Type 0 where
  pub are_as_many : length rows ≡ nodes
  pub each : (n : ℕ) → n < nodes
      → or_else (row_of rows n) (row_from row (drop row order) n) ≡ row_from 0 order n

module _ (nodes : ℕ) (order : List NodePlace) where
  pub no_row : RowsSoFar nodes order 0 (replicate nodes None)
  no_row = record {
    are_as_many = length-replicate nodes None;
    each = λ n within. ap (λ o. or_else o (row_from 0 order n)) (get_or-replicate nodes n None None within);
  }

  pub next_row : (row : ℕ) (p : NodePlace) (rows rows_after : List (Option ℕ)) → row < length order
      → p ≡ get_or order row p
      → rows_after ≡ with_row p.node row rows
      → RowsSoFar nodes order row rows
      → RowsSoFar nodes order (row + 1) rows_after
  next_row row p rows rows_after within is after so_far = record {
    are_as_many = ap length after ∙ with_row-length p.node row rows ∙ so_far.are_as_many;
    each = λ n inside. step n inside ∙ sym (ap (or_else (row_of rows n)) (ap (λ l. row_from row l n) split)) ∙ so_far.each n inside;
  }
    where
      split : drop row order ≡ p ∷ drop (row + 1) order
      split = drop_more order row p within ∙ ap (λ x. x ∷ drop (row + 1) order) (sym is)

      rest : ℕ → Option ℕ
      rest n = row_from (row + 1) (drop (row + 1) order) n

      some_first : (o : Option ℕ) (n : ℕ) → or_else (or_else o (Some row)) (rest n) ≡ or_else o (Some row)
      some_first None n = refl
      some_first (Some r) n = refl

      step : (n : ℕ) → n < nodes
          → or_else (row_of rows_after n) (row_from (row + 1) (drop (row + 1) order) n)
          ≡ or_else (row_of rows n) (row_from row (p ∷ drop (row + 1) order) n)
      step n inside =
          elim (cases_eq n p.node) [
            | inl same ↦
                ap (λ o. or_else o (rest n))
                (ap (λ l. row_of l n) after ∙ ap (λ k. row_of (with_row p.node row rows) k) same
                ∙ with_row-same p.node row rows
                (subst (λ k. k < length rows) same (subst (λ m. n < m) (sym so_far.are_as_many) inside))
                ∙ ap (λ k. or_else (row_of rows k) (Some row)) (sym same))
                ∙ some_first (row_of rows n) n
                ∙ ap (or_else (row_of rows n))
                (sym (if_first (p.node == n) (Some row) (rest n) (eq-eqb p.node n (sym same))))
            | inr apart ↦
                ap (λ o. or_else o (rest n)) (ap (λ l. row_of l n) after ∙ with_row-other p.node row rows n apart)
                ∙ ap (or_else (row_of rows n))
                (sym (if_second (p.node == n) (Some row) (rest n) (ne_eqb p.node n (λ e. apart (sym e)))))
          ]

  pub all_rows : (row : ℕ) (rows : List (Option ℕ)) → length order ≤ row → RowsSoFar nodes order row rows
      → RowsOfNodes nodes order rows
  all_rows row rows past so_far = record {
    are_as_many = so_far.are_as_many;
    each = λ n within.
        sym (or_nothing (row_of rows n))
        ∙ ap (λ l. or_else (row_of rows n) (row_from row l n)) (sym (drop_all row order past))
        ∙ so_far.each n within;
  }
    where
      or_nothing : (o : Option ℕ) → or_else o None ≡ o
      or_nothing None = refl
      or_nothing (Some r) = refl

-- Where each node stands in the order

no_such_row : (k n : ℕ) (order : List NodePlace) → ((p : NodePlace) → Contains order p → p.node ≢ n)
    → row_from k order n ≡ None
no_such_row k n [] none = refl
no_such_row k n (p ∷ ps) none =
    if_second (p.node == n) (Some k) (row_from (k + 1) ps n) (ne_eqb p.node n (none p (contains_here p ps)))
    ∙ no_such_row (k + 1) n ps (λ q inside. none q (contains_there p q ps inside))

pub places_below : {E : Type 0} (n : ℕ) (os : List (Occurrence E)) (p : NodePlace) → Contains (places n os) p
    → p.node < n + length os
places_below n [] p inside = absurd (contains_nil p inside)
places_below n (o ∷ os) p inside =
    elim (contains_cases (record { at = o.at; order = o.order; node = n }) p (places (n + 1) os) inside) [
      | inl same ↦ let is = ap (λ (q : NodePlace). q.node) same in omega (arith, is)
      | inr later ↦ let below = places_below (n + 1) os p later in omega (arith, below)
    ]

pub each_row : {E : Type 0} (os : List (Occurrence E)) (order : List NodePlace) (rows : List (Option ℕ))
    → RowsOfNodes (length os) order rows
    → IsPermutation (places 0 os) order
    → (n : ℕ) → row_of rows n ≡ row_from 0 order n
each_row os order rows found same n =
    elim (cases_lt n (length os)) [
      | inl within ↦ found.each n within
      | inr past ↦
          get_or_past rows n None (subst (λ m. m ≤ n) (sym found.are_as_many) past)
          ∙ sym (no_such_row 0 n order (λ p inside e.
          let below = places_below 0 os p (Contains-permutation order (places 0 os) p
          (IsPermutation-sym (places 0 os) order same) inside) in
          omega (arith, below, e, past)))
    ]

-- Groups that the body has not

pub next_spare : (groups groups_after whole : List ℕ) (s : ℕ) → 0 < s
    → groups_after ≡ groups ++ (greatest - (s - 1)) ∷ []
    → groups ++ spare s ≡ whole
    → groups_after ++ spare (s - 1) ≡ whole
next_spare groups groups_after whole zero some after is = absurd (omega (arith, some))
next_spare groups groups_after whole (suc n) some after is =
    let one_less : suc n - 1 ≡ n = omega arith in
    ap (λ l. l ++ spare (suc n - 1)) after ∙ append_assoc groups ((greatest - (suc n - 1)) ∷ []) (spare (suc n - 1))
    ∙ ap (λ k. groups ++ ((greatest - k) ∷ spare k)) one_less ∙ is

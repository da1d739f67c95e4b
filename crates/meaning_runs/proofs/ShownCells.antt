-- What is shown of a store stays right where a frame binds a variable: one that is shown writes a cell, and of another one
-- only a new cell is seen.
use Rattle.std.proofs.Common.{◌≡◌, ℕ, ◌+◌, ◌<◌, ◌⊎◌, inl, inr, Bool, true, false, cond, Option, Some, None, refl, sym, ap, subst, ◌∙◌, arith}
use Rattle.std.specs.Prelude.{◌==◌, if◌then◌else◌}
use Rattle.std.proofs.lemmas.Bool.{false≢true, cases_eq}
use Rattle.std.proofs.lemmas.Option.{none-some, same_Some}
use Rattle.meaning.specs.Uses.{VariableAt}
use Rattle.meaning_runs.specs.World.{Value, nothing, Store, put_at, is_declaration, cell_or, bound_cell, binding, binding_group, Frame}
use Rattle.meaning_runs.proofs.Contexts.{put_at-same, put_at-other}
use Rattle.meaning_runs.proofs.Shown.{Shadow, IsOut, IsShadow, FineCells, agree_at, with_new_cells}

pub put_agree : {A : Type 0} (f g : ℕ → A) (n : ℕ) (y : A) (v : ℕ) → f v ≡ g v → put_at f n y v ≡ put_at g n y v
put_agree f g n y v h = ap (λ z. cond (v == n) y z) h

other_cell : {A : Type 0} (f : ℕ → ℕ → A) (n : ℕ) (y : ℕ → A) (k v : ℕ) → (k ≡ n → ⊥) → put_at f n y k v ≡ f k v
other_cell f n y k v ne = ap (λ h. h v) (put_at-other f n y k ne)

not_both : (b : Bool) → b ≡ true → b ≡ false → ⊥
not_both b e g = false≢true (sym g ∙ e)

module _ (s : Store) (x : Shadow) (is : IsShadow s x) (f : Frame) (u : VariableAt) (t : Bool) (its : FineCells s x t f.newest) where
  abbrev k : ℕ
  k = bound_cell s f u

  -- the cell is new, or one that the frame has
  pub cell_so : (k ≡ s.cell_count) ⊎ ((k < s.cell_count) × (x.is_shown k ≡ t))
  cell_so = by (is_declaration u) (f.newest u.number) refl
    where
      by : (b : Bool) (o : Option ℕ) → f.newest u.number ≡ o
          → ((if b then s.cell_count else cell_or s.cell_count o) ≡ s.cell_count)
          ⊎ (((if b then s.cell_count else cell_or s.cell_count o) < s.cell_count)
          × (x.is_shown (if b then s.cell_count else cell_or s.cell_count o) ≡ t))
      by true o e = inl refl
      by false None e = inl refl
      by false (Some k) e = inr (its u.number k e)

  low : k < s.cell_count + 1
  low = elim cell_so [ inl e ↦ omega (arith, e) | inr h ↦ let l = h.0 in omega (arith, l) ]

  abbrev pub marked : ℕ → Bool
  marked = put_at x.is_shown s.cell_count t

  pub marked_old : (i : ℕ) → i < s.cell_count → marked i ≡ x.is_shown i
  marked_old i l = put_at-other x.is_shown s.cell_count t i (λ same. omega (arith, l, same))

  -- the newest cells of the frame behind it
  pub newest_behind : (after : Store) (y : Shadow) → after.cell_count ≡ s.cell_count + 1 → y.is_shown ≡ marked
      → FineCells after y t (put_at f.newest u.number (Some k))
  newest_behind after y count shown v i e = elim (cases_eq v u.number) [
    | inl same ↦
        its_own i (same_Some k i (sym (ap (put_at f.newest u.number (Some k)) same ∙ put_at-same f.newest u.number (Some k)) ∙ e))
    | inr ne ↦
        let r = its v i (sym (put_at-other f.newest u.number (Some k) v ne) ∙ e) in
        let l = r.0 in
        (omega (arith, l, count), ap (λ (m : ℕ → Bool). m i) shown ∙ (marked_old i l ∙ r.1))
  ]
    where
      its_own : (i : ℕ) → k ≡ i → (i < after.cell_count) × (y.is_shown i ≡ t)
      its_own i same =
          let l = low in (
            omega (arith, l, same, count),
            ap (λ (m : ℕ → Bool). m i) shown ∙ elim cell_so [
              | inl new ↦ ap marked (sym same ∙ new) ∙ put_at-same x.is_shown s.cell_count t
              | inr old ↦
                  let o = old.0 in
                  marked_old i (omega (arith, o, same)) ∙ (ap x.is_shown (sym same) ∙ old.1)
            ],
          )

  -- a frame that is shown
  module _ (shown : t ≡ true) where
    agree_k : (v : ℕ) → x.cells k v ≡ s.cells k v
    agree_k v = elim cell_so [
      | inl e ↦ is.unused_cells k v (omega (arith, e))
      | inr h ↦ is.same_cells k v (h.1 ∙ shown)
    ]

    agree_marked : (i v : ℕ) → marked i ≡ true → x.cells i v ≡ s.cells i v
    agree_marked i v e = elim (cases_eq i s.cell_count) [
      | inl same ↦ is.unused_cells i v (omega (arith, same))
      | inr ne ↦ is.same_cells i v (sym (put_at-other x.is_shown s.cell_count t i ne) ∙ e)
    ]

    holds_k : (v : ℕ) → x.holds k v ≡ s.holds k v
    holds_k v = elim cell_so [
      | inl e ↦ is.unused_holds k v (omega (arith, e)) ∙ sym (is.unused k v (omega (arith, e)))
      | inr h ↦ is.same_holds k v (h.1 ∙ shown)
    ]

    holds_marked : (i v : ℕ) → marked i ≡ true → x.holds i v ≡ s.holds i v
    holds_marked i v e = elim (cases_eq i s.cell_count) [
      | inl same ↦ is.unused_holds i v (omega (arith, same)) ∙ sym (is.unused i v (omega (arith, same)))
      | inr ne ↦ is.same_holds i v (sym (put_at-other x.is_shown s.cell_count t i ne) ∙ e)
    ]

    -- what is not marked is old, and another cell
    hidden_old : (i : ℕ) → marked i ≡ false → x.is_shown i ≡ false
    hidden_old i e = elim (cases_eq i s.cell_count) [
      | inl same ↦ absurd (not_both (marked i) (ap marked same ∙ (put_at-same x.is_shown s.cell_count t ∙ shown)) e)
      | inr ne ↦ sym (put_at-other x.is_shown s.cell_count t i ne) ∙ e
    ]

    hidden_other : (i : ℕ) → marked i ≡ false → i ≡ k → ⊥
    hidden_other i e same = elim cell_so [
      | inl new ↦ not_both (marked i) (ap marked (same ∙ new) ∙ (put_at-same x.is_shown s.cell_count t ∙ shown)) e
      | inr old ↦ not_both (x.is_shown i) (ap x.is_shown same ∙ (old.1 ∙ shown)) (hidden_old i e)
    ]

    abbrev pub with_value : Value → Shadow
    with_value value = record x { cells = put_at x.cells k (put_at (x.cells k) u.number value); is_shown = marked }

    abbrev pub with_its_group : ℕ → Shadow
    with_its_group group = record x { holds = put_at x.holds k (put_at (x.holds k) u.number (Some group)); is_shown = marked }

    pub value_shown : (value : Value) → IsShadow (binding s f u value) (with_value value)
    value_shown value = record {
      out = is.out;
      fresh = is.fresh;
      same_cells = λ i v e. agree_at x.cells s.cells k (put_at (x.cells k) u.number value) (put_at (s.cells k) u.number value) i v
          (put_agree (x.cells k) (s.cells k) u.number value v (agree_k v)) (λ ne. agree_marked i v e);
      same_holds = λ i v e. holds_marked i v e;
      foreign = λ i v a e h. is.foreign i v a (hidden_old i e) h;
      unused_cells = λ i v l. agree_at x.cells s.cells k (put_at (x.cells k) u.number value) (put_at (s.cells k) u.number value) i v
          (put_agree (x.cells k) (s.cells k) u.number value v (agree_k v)) (λ ne. is.unused_cells i v (omega (arith, l)));
      unused = λ i v l. is.unused i v (omega (arith, l));
      unused_holds = λ i v l. is.unused_holds i v (omega (arith, l));
      contexts = is.contexts;
    }

    pub group_shown : (group : ℕ) → IsShadow (binding_group s f u group) (with_its_group group)
    group_shown group = record {
      out = is.out;
      fresh = is.fresh;
      same_cells = λ i v e. agree_marked i v e;
      same_holds = λ i v e. agree_at x.holds s.holds k (put_at (x.holds k) u.number (Some group)) (put_at (s.holds k) u.number (Some group)) i v
          (put_agree (x.holds k) (s.holds k) u.number (Some group) v (holds_k v)) (λ ne. holds_marked i v e);
      foreign = λ i v a e h. is.foreign i v a (hidden_old i e)
          (sym (other_cell s.holds k (put_at (s.holds k) u.number (Some group)) i v (hidden_other i e)) ∙ h);
      unused_cells = λ i v l. is.unused_cells i v (omega (arith, l));
      unused = λ i v l. let b = low in
          other_cell s.holds k (put_at (s.holds k) u.number (Some group)) i v (λ same. omega (arith, l, b, same))
          ∙ is.unused i v (omega (arith, l));
      unused_holds = λ i v l. let b = low in
          other_cell x.holds k (put_at (x.holds k) u.number (Some group)) i v (λ same. omega (arith, l, b, same))
          ∙ is.unused_holds i v (omega (arith, l));
      contexts = is.contexts;
    }

  -- one that is not
  module _ (hidden : t ≡ false) where
    abbrev pub with_empty : Shadow
    with_empty = with_new_cells s x is false (λ v. nothing) (λ v. None)

    abbrev unmarked : ℕ → Bool
    unmarked = put_at x.is_shown s.cell_count false

    shown_old : (i : ℕ) → unmarked i ≡ true → (i ≡ s.cell_count → ⊥) × (x.is_shown i ≡ true)
    shown_old i e = elim (cases_eq i s.cell_count) [
      | inl same ↦ absurd (not_both (unmarked i) e (ap unmarked same ∙ put_at-same x.is_shown s.cell_count false))
      | inr ne ↦ (ne, sym (put_at-other x.is_shown s.cell_count false i ne) ∙ e)
    ]

    shown_other : (i : ℕ) → unmarked i ≡ true → i ≡ k → ⊥
    shown_other i e same = elim cell_so [
      | inl new ↦ (shown_old i e).0 (same ∙ new)
      | inr old ↦ not_both (x.is_shown i) (shown_old i e).1 (ap x.is_shown same ∙ (old.1 ∙ hidden))
    ]

    -- what such a cell held
    was_out : (i v a : ℕ) → unmarked i ≡ false → s.holds i v ≡ Some a → IsOut x a
    was_out i v a e h = elim (cases_eq i s.cell_count) [
      | inl same ↦ absurd (none-some a (sym (is.unused i v (omega (arith, same))) ∙ h))
      | inr ne ↦ is.foreign i v a (sym (put_at-other x.is_shown s.cell_count false i ne) ∙ e) h
    ]

    pub value_hidden : (value : Value) → IsShadow (binding s f u value) with_empty
    value_hidden value = record {
      out = is.out;
      fresh = is.fresh;
      same_cells = λ i v e.
          other_cell x.cells s.cell_count (λ w. nothing) i v (shown_old i e).0
          ∙ (is.same_cells i v (shown_old i e).1
          ∙ sym (other_cell s.cells k (put_at (s.cells k) u.number value) i v (shown_other i e)));
      same_holds = λ i v e.
          other_cell x.holds s.cell_count (λ w. None) i v (shown_old i e).0 ∙ is.same_holds i v (shown_old i e).1;
      foreign = was_out;
      unused_cells = λ i v l. let b = low in
          other_cell x.cells s.cell_count (λ w. nothing) i v (λ same. omega (arith, l, same))
          ∙ (is.unused_cells i v (omega (arith, l))
          ∙ sym (other_cell s.cells k (put_at (s.cells k) u.number value) i v (λ same. omega (arith, l, b, same))));
      unused = λ i v l. is.unused i v (omega (arith, l));
      unused_holds = λ i v l. other_cell x.holds s.cell_count (λ w. None) i v (λ same. omega (arith, l, same))
          ∙ is.unused_holds i v (omega (arith, l));
      contexts = is.contexts;
    }

    pub group_hidden : (group : ℕ) → IsOut x group → IsShadow (binding_group s f u group) with_empty
    group_hidden group its_out = record {
      out = is.out;
      fresh = is.fresh;
      same_cells = λ i v e.
          other_cell x.cells s.cell_count (λ w. nothing) i v (shown_old i e).0 ∙ is.same_cells i v (shown_old i e).1;
      same_holds = λ i v e.
          other_cell x.holds s.cell_count (λ w. None) i v (shown_old i e).0
          ∙ (is.same_holds i v (shown_old i e).1
          ∙ sym (other_cell s.holds k (put_at (s.holds k) u.number (Some group)) i v (shown_other i e)));
      foreign = λ i v a e h. elim (cases_eq i k) [
        | inl same ↦
            written v a (sym (ap (λ g. g v)
            (ap (put_at s.holds k (put_at (s.holds k) u.number (Some group))) same
            ∙ put_at-same s.holds k (put_at (s.holds k) u.number (Some group)))) ∙ h)
        | inr ne ↦ was_out i v a e (sym (other_cell s.holds k (put_at (s.holds k) u.number (Some group)) i v ne) ∙ h)
      ];
      unused_cells = λ i v l. other_cell x.cells s.cell_count (λ w. nothing) i v (λ same. omega (arith, l, same))
          ∙ is.unused_cells i v (omega (arith, l));
      unused = λ i v l. let b = low in
          other_cell s.holds k (put_at (s.holds k) u.number (Some group)) i v (λ same. omega (arith, l, b, same))
          ∙ is.unused i v (omega (arith, l));
      unused_holds = λ i v l. other_cell x.holds s.cell_count (λ w. None) i v (λ same. omega (arith, l, same))
          ∙ is.unused_holds i v (omega (arith, l));
      contexts = is.contexts;
    }
      where
        at_k : (v a : ℕ) → s.holds k v ≡ Some a → IsOut x a
        at_k v a h = elim cell_so [
          | inl new ↦ absurd (none-some a (sym (is.unused k v (omega (arith, new))) ∙ h))
          | inr old ↦ is.foreign k v a (old.1 ∙ hidden) h
        ]

        written : (v a : ℕ) → put_at (s.holds k) u.number (Some group) v ≡ Some a → IsOut x a
        written v a h = elim (cases_eq v u.number) [
          | inl same ↦
              subst (IsOut x)
              (same_Some group a (sym (ap (put_at (s.holds k) u.number (Some group)) same
              ∙ put_at-same (s.holds k) u.number (Some group)) ∙ h))
              its_out
          | inr ne ↦ at_k v a (sym (put_at-other (s.holds k) u.number (Some group) v ne) ∙ h)
        ]

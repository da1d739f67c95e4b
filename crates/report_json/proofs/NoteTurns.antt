-- Notes of loops, one after the other.
use Rattle.std.proofs.Common.{◌≡◌, ℕ, ◌+◌, ◌<◌, ◌≤◌, Bool, true, false, if◌then◌else◌, cond, List, [], ◌∷◌, length, get_or, drop, filter, refl, sym, ap, ◌∙◌, arith}
use Rattle.std.proofs.lemmas.List.{drop_more, drop_all}
use Rattle.report.specs.declared.notes.Note.{Note}

module _ (test : Note → Bool) (notes : List Note) (i : ℕ) where
  abbrev left : List Note → ℕ
  left ns = length (filter test ns)

  by_test : (b : Bool) (n : Note) (ns : List Note) (turn : ℕ) → (if b then turn + 1 else turn) + left ns ≡ turn + length (cond b (n ∷ filter test ns) (filter test ns))
  by_test true n ns turn = omega arith
  by_test false n ns turn = refl

  pub turn_on : (n : Note) (turn next : ℕ) → i < length notes → n ≡ get_or notes i n → next ≡ (if test n then turn + 1 else turn)
      → next + length (filter test (drop (i + 1) notes)) ≡ turn + length (filter test (drop i notes))
  turn_on n turn next inside there is =
      ap (λ k. k + left (drop (i + 1) notes)) is
      ∙ (by_test (test n) n (drop (i + 1) notes) turn
      ∙ (ap (λ x. turn + length (filter test (x ∷ drop (i + 1) notes))) there
      ∙ ap (λ l. turn + length (filter test l)) (sym (drop_more notes i n inside))))

  pub all_turns : (turn whole : ℕ) → length notes ≤ i → turn + length (filter test (drop i notes)) ≡ whole → turn ≡ whole
  all_turns turn whole over is =
      let none : turn + length (filter test (drop i notes)) ≡ turn + 0 = ap (λ l. turn + length (filter test l)) (drop_all i notes over) in
      omega (arith, none, is)

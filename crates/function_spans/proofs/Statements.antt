-- Where a statement ends, one byte of its text after the other.
use Rattle.std.proofs.Common.{◌≡◌, ◌∙◌, ◌+◌, ◌<◌, ◌≤◌, ℕ, Bool, true, false, if◌then◌else◌, List, ◌∷◌, length, get_or, drop, sym, ap}
use Rattle.std.proofs.lemmas.List.{at_drop_all, drop_more}
use Rattle.function_spans.specs.declared.bodies.Scan.{Scan}
use Rattle.function_spans.specs.Bodies.{after}
use Rattle.function_spans.specs.Steps.{end_from, end_with, ends_step, in_literal_after}

module _ (is_header : Bool) (s : Scan) (in_literal : Bool) (before : ℕ) (text : List ℕ) (n end : ℕ) where
  end_more : (is_end : Bool) → n < length text → ends_step is_header s in_literal before (drop n text) ≡ is_end
      → end_from is_header s in_literal before n end (drop n text)
      ≡ (if is_end then end
      else end_from is_header (after s (drop n text)) (in_literal_after s in_literal (drop n text)) (get_or text n 0) (n + 1) (end_with s n end (drop n text)) (drop (n + 1) text))
  end_more is_end inside test =
      let is = drop_more text n 0 inside in
      let same = ap (λ t. ends_step is_header s in_literal before t) (sym is) ∙ test in
      ap (end_from is_header s in_literal before n end) is
      ∙ (λ i. if same i then end
      else end_from is_header (after s (sym is i)) (in_literal_after s in_literal (sym is i)) (get_or text n 0) (n + 1) (end_with s n end (sym is i)) (drop (n + 1) text))

  pub statement_ends : n < length text → ends_step is_header s in_literal before (drop n text) ≡ true
      → end_from is_header s in_literal before n end (drop n text) ≡ end
  statement_ends inside test = end_more true inside test

  pub statement_on : (next : Scan) (inside : Bool) (later : ℕ) → n < length text
      → ends_step is_header s in_literal before (drop n text) ≡ false
      → next ≡ after s (drop n text) → inside ≡ in_literal_after s in_literal (drop n text)
      → later ≡ end_with s n end (drop n text)
      → end_from is_header next inside (get_or text n 0) (n + 1) later (drop (n + 1) text)
      ≡ end_from is_header s in_literal before n end (drop n text)
  statement_on next inside later less test is l e =
      (λ i. end_from is_header (is i) (l i) (get_or text n 0) (n + 1) (e i) (drop (n + 1) text))
      ∙ sym (end_more false less test)

  pub no_statement : length text ≤ n → end_from is_header s in_literal before n end (drop n text) ≡ end
  no_statement past = at_drop_all (end_from is_header s in_literal before n end) text n past

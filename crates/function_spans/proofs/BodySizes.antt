-- How many bytes stand before the end of a body, one byte after the other.
use Rattle.std.proofs.Common.{◌≡◌, ◌∙◌, ◌+◌, ◌-◌, ◌<◌, ◌≤◌, ℕ, Bool, true, false, if◌then◌else◌, List, length, get_or, drop, sym, ap, arith}
use Rattle.std.proofs.lemmas.List.{at_drop_all, drop_more}
use Rattle.function_spans.specs.declared.bodies.Scan.{Scan}
use Rattle.function_spans.specs.Bodies.{after, closes, ends, is_code, opens, size_from}

-- at most one bracket more is open behind a byte
pub depth_grows : (s : Scan) (text : List ℕ) → (after s text).depth ≤ s.depth + 1
depth_grows s text = by (is_code s.within) (opens (get_or text 0 0)) (closes (get_or text 0 0))
  where
    by : (t o c : Bool)
        → (if t then (if o then s.depth + 1 else if c then s.depth - 1 else s.depth) else s.depth) ≤ s.depth + 1
    by true true c = omega arith
    by true false true = omega arith
    by true false false = omega arith
    by false o c = omega arith

no_more : (n : ℕ) → n + 0 ≡ n
no_more n = omega arith

one_more : (n m : ℕ) → n + (1 + m) ≡ (n + 1) + m
one_more n m = omega arith

module _ (s : Scan) (text : List ℕ) (n : ℕ) where
  size_more : n < length text
      → size_from s (drop n text)
      ≡ (if ends s (get_or text n 0) then 0 else 1 + size_from (after s (drop n text)) (drop (n + 1) text))
  size_more inside =
      let is = drop_more text n 0 inside in
      ap (size_from s) is
      ∙ ap (λ (bs : List ℕ). if ends s (get_or text n 0) then 0 else 1 + size_from (after s bs) (drop (n + 1) text))
      (sym is)

  -- this byte ends the body
  pub body_ends : n < length text → ends s (get_or text n 0) ≡ true → n + size_from s (drop n text) ≡ n
  body_ends inside e =
      ap (λ (k : ℕ). n + k)
      (size_more inside
      ∙ ap (λ (t : Bool). if t then 0 else 1 + size_from (after s (drop n text)) (drop (n + 1) text)) e)
      ∙ no_more n

  -- it doesn't
  pub body_goes_on : (next : Scan) → n < length text → ends s (get_or text n 0) ≡ false → next ≡ after s (drop n text)
      → (n + 1) + size_from next (drop (n + 1) text) ≡ n + size_from s (drop n text)
  body_goes_on next inside e is =
      ap (λ (x : Scan). (n + 1) + size_from x (drop (n + 1) text)) is
      ∙ (sym (one_more n (size_from (after s (drop n text)) (drop (n + 1) text)))
      ∙ ap (λ (k : ℕ). n + k)
      (sym (size_more inside
      ∙ ap (λ (t : Bool). if t then 0 else 1 + size_from (after s (drop n text)) (drop (n + 1) text)) e)))

  -- no byte is left
  pub no_body_end : length text ≤ n → n + size_from s (drop n text) ≡ n
  no_body_end past = ap (λ (k : ℕ). n + k) (at_drop_all (size_from s) text n past) ∙ no_more n

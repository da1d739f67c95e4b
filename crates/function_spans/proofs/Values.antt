-- What is bound, and names that are called, one byte of a text after the other.
use Rattle.std.proofs.Common.{◌≡◌, ◌∙◌, ◌+◌, ◌<◌, ◌≤◌, ℕ, Bool, true, false, if◌then◌else◌, List, [], ◌∷◌, ◌++◌, length, get_or, drop, take, refl, sym, ap}
use Rattle.std.proofs.lemmas.List.{append-nil, append_assoc, at_drop_all, drop_more, take_more}
use Rattle.function_spans.specs.declared.bodies.Scan.{Scan}
use Rattle.function_spans.specs.Bodies.{after}
use Rattle.function_spans.specs.Calls.{is_binding, is_of_name, name_of, solid_from, value_from}
use Rattle.function_spans.specs.Steps.{ends_simple, is_blank}

module _ (s : Scan) (text : List ℕ) (n : ℕ) where
  value_more : (binds ends : Bool) → n < length text
      → is_binding s (get_or text n 0) ≡ binds → ends_simple s (get_or text n 0) ≡ ends
      → value_from s (drop n text)
      ≡ (if binds then drop (n + 1) text else if ends then [] else value_from (after s (drop n text)) (drop (n + 1) text))
  value_more binds ends inside b e =
      let is = drop_more text n 0 inside in
      ap (value_from s) is
      ∙ (λ i. if b i then drop (n + 1) text else if e i then [] else value_from (after s (sym is i)) (drop (n + 1) text))

  pub value_stands : n < length text → is_binding s (get_or text n 0) ≡ true → value_from s (drop n text) ≡ drop (n + 1) text
  value_stands inside b = value_more true _ inside b refl

  pub value_ends : n < length text → is_binding s (get_or text n 0) ≡ false → ends_simple s (get_or text n 0) ≡ true
      → value_from s (drop n text) ≡ []
  value_ends inside b e = value_more false true inside b e

  pub value_later : (next : Scan) → n < length text → is_binding s (get_or text n 0) ≡ false
      → ends_simple s (get_or text n 0) ≡ false → next ≡ after s (drop n text)
      → value_from next (drop (n + 1) text) ≡ value_from s (drop n text)
  value_later next inside b e is =
      ap (λ (x : Scan). value_from x (drop (n + 1) text)) is ∙ sym (value_more false false inside b e)

  pub no_value : length text ≤ n → value_from s (drop n text) ≡ []
  no_value past = at_drop_all (value_from s) text n past

module _ (text : List ℕ) (n : ℕ) where
  solid_more : (blank : Bool) → n < length text → is_blank (get_or text n 0) ≡ blank
      → solid_from (drop n text) ≡ (if blank then solid_from (drop (n + 1) text) else drop n text)
  solid_more blank inside test =
      let is = drop_more text n 0 inside in
      ap solid_from is ∙ (λ i. if test i then solid_from (drop (n + 1) text) else sym is i)

  pub solid_stands : n < length text → is_blank (get_or text n 0) ≡ false → solid_from (drop n text) ≡ drop n text
  solid_stands inside test = solid_more false inside test

  pub solid_later : n < length text → is_blank (get_or text n 0) ≡ true
      → solid_from (drop (n + 1) text) ≡ solid_from (drop n text)
  solid_later inside test = sym (solid_more true inside test)

  pub no_solid : length text ≤ n → solid_from (drop n text) ≡ []
  no_solid past = at_drop_all solid_from text n past

  name_more : (is_in : Bool) → n < length text → is_of_name (get_or text n 0) ≡ is_in
      → name_of (drop n text) ≡ (if is_in then get_or text n 0 ∷ name_of (drop (n + 1) text) else [])
  name_more is_in inside test =
      ap name_of (drop_more text n 0 inside)
      ∙ ap (λ (t : Bool). if t then get_or text n 0 ∷ name_of (drop (n + 1) text) else []) test

  pub name_goes_on : n < length text → is_of_name (get_or text n 0) ≡ true
      → take (n + 1) text ++ name_of (drop (n + 1) text) ≡ take n text ++ name_of (drop n text)
  name_goes_on inside test =
      ap (λ t. t ++ name_of (drop (n + 1) text)) (take_more text n 0 inside)
      ∙ append_assoc (take n text) (get_or text n 0 ∷ []) (name_of (drop (n + 1) text))
      ∙ ap (λ t. take n text ++ t) (sym (name_more true inside test))

  pub name_ends : n < length text → is_of_name (get_or text n 0) ≡ false → take n text ++ name_of (drop n text) ≡ take n text
  name_ends inside test = ap (λ t. take n text ++ t) (name_more false inside test) ∙ append-nil (take n text)

  pub all_is_name : length text ≤ n → take n text ++ name_of (drop n text) ≡ take n text
  all_is_name past = ap (λ t. take n text ++ t) (at_drop_all name_of text n past) ∙ append-nil (take n text)

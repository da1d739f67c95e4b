-- Heads, names and words of a text, one byte after the other.
use Rattle.std.proofs.Common.{◌≡◌, ◌∙◌, ◌+◌, ◌<◌, ◌≤◌, ◌&&◌, ◌||◌, not, ℕ, Bool, true, false, if◌then◌else◌, List, [], ◌∷◌, ◌++◌, length, get_or, drop, take, refl, sym, ap}
use Rattle.std.proofs.lemmas.List.{append-nil, append_assoc, at_drop_all, drop_more, take_more}
use Rattle.function_spans.specs.declared.bodies.Scan.{Scan}
use Rattle.function_spans.specs.Bodies.{after, is_of_word}
use Rattle.function_spans.specs.Functions.{begins_name, comes_to_body, ends_head, last_word, later_word, name_text, opens_body, word_of}

module _ (s : Scan) (text : List ℕ) (n : ℕ) where
  -- Whether a head comes to a body

  body_more : n < length text
      → comes_to_body s (drop n text)
      ≡ (opens_body s (get_or text n 0)
      || (not (ends_head s (get_or text n 0)) && comes_to_body (after s (drop n text)) (drop (n + 1) text)))
  body_more inside =
      let is = drop_more text n 0 inside in
      ap (comes_to_body s) is
      ∙ ap
      (λ (bs : List ℕ). opens_body s (get_or text n 0) || (not (ends_head s (get_or text n 0)) && comes_to_body (after s bs) (drop (n + 1) text)))
      (sym is)

  by_tests : (opens ends : Bool) → n < length text
      → opens_body s (get_or text n 0) ≡ opens → ends_head s (get_or text n 0) ≡ ends
      → comes_to_body s (drop n text)
      ≡ (opens || (not ends && comes_to_body (after s (drop n text)) (drop (n + 1) text)))
  by_tests opens ends inside o e =
      body_more inside ∙ (λ i. o i || (not (e i) && comes_to_body (after s (drop n text)) (drop (n + 1) text)))

  pub body_stands : n < length text → opens_body s (get_or text n 0) ≡ true → comes_to_body s (drop n text) ≡ true
  body_stands inside o = by_tests true _ inside o refl

  pub head_ends : n < length text → opens_body s (get_or text n 0) ≡ false → ends_head s (get_or text n 0) ≡ true
      → comes_to_body s (drop n text) ≡ false
  head_ends inside o e = by_tests false true inside o e

  pub head_goes_on : (next : Scan) → n < length text → opens_body s (get_or text n 0) ≡ false
      → ends_head s (get_or text n 0) ≡ false → next ≡ after s (drop n text)
      → comes_to_body next (drop (n + 1) text) ≡ comes_to_body s (drop n text)
  head_goes_on next inside o e is =
      ap (λ (x : Scan). comes_to_body x (drop (n + 1) text)) is ∙ sym (by_tests false false inside o e)

  pub no_body : length text ≤ n → comes_to_body s (drop n text) ≡ false
  no_body past = at_drop_all (comes_to_body s) text n past

  -- Where a name stands

  name_more : (stands : Bool) → n < length text → begins_name s (get_or text n 0) ≡ stands
      → name_text s (drop n text) ≡ (if stands then drop n text else name_text (after s (drop n text)) (drop (n + 1) text))
  name_more stands inside test =
      let is = drop_more text n 0 inside in
      ap (name_text s) is
      ∙ (λ i. if test i then sym is i else name_text (after s (sym is i)) (drop (n + 1) text))

  pub name_stands : n < length text → begins_name s (get_or text n 0) ≡ true
      → name_text s (drop n text) ≡ drop n text
  name_stands inside test = name_more true inside test

  pub name_later : (next : Scan) → n < length text → begins_name s (get_or text n 0) ≡ false
      → next ≡ after s (drop n text) → name_text next (drop (n + 1) text) ≡ name_text s (drop n text)
  name_later next inside test is =
      ap (λ (x : Scan). name_text x (drop (n + 1) text)) is ∙ sym (name_more false inside test)

  pub no_name : length text ≤ n → name_text s (drop n text) ≡ []
  no_name past = at_drop_all (name_text s) text n past

  -- The type of a receiver

  module _ (found : List ℕ) where
    type_more : (stands : Bool) → n < length text → begins_name s (get_or text n 0) ≡ stands
        → last_word s found (drop n text)
        ≡ (if stands then found else last_word (after s (drop n text)) (later_word s found (drop n text)) (drop (n + 1) text))
    type_more stands inside test =
        let is = drop_more text n 0 inside in
        ap (last_word s found) is
        ∙ (λ i. if test i then found else last_word (after s (sym is i)) (later_word s found (sym is i)) (drop (n + 1) text))

    pub type_found : n < length text → begins_name s (get_or text n 0) ≡ true → last_word s found (drop n text) ≡ found
    type_found inside test = type_more true inside test

    pub type_later : (next : Scan) (later : List ℕ) → n < length text → begins_name s (get_or text n 0) ≡ false
        → next ≡ after s (drop n text) → later ≡ later_word s found (drop n text)
        → last_word next later (drop (n + 1) text) ≡ last_word s found (drop n text)
    type_later next later inside test is l =
        (λ i. last_word (is i) (l i) (drop (n + 1) text)) ∙ sym (type_more false inside test)

    pub no_type : length text ≤ n → last_word s found (drop n text) ≡ found
    no_type past = at_drop_all (last_word s found) text n past

-- The word at a text's start

module _ (text : List ℕ) (n : ℕ) where
  word_more : (is_in : Bool) → n < length text → is_of_word (get_or text n 0) ≡ is_in
      → word_of (drop n text) ≡ (if is_in then get_or text n 0 ∷ word_of (drop (n + 1) text) else [])
  word_more is_in inside test =
      ap word_of (drop_more text n 0 inside)
      ∙ ap (λ (t : Bool). if t then get_or text n 0 ∷ word_of (drop (n + 1) text) else []) test

  pub word_goes_on : n < length text → is_of_word (get_or text n 0) ≡ true
      → take (n + 1) text ++ word_of (drop (n + 1) text) ≡ take n text ++ word_of (drop n text)
  word_goes_on inside test =
      ap (λ t. t ++ word_of (drop (n + 1) text)) (take_more text n 0 inside)
      ∙ append_assoc (take n text) (get_or text n 0 ∷ []) (word_of (drop (n + 1) text))
      ∙ ap (λ t. take n text ++ t) (sym (word_more true inside test))

  pub word_ends : n < length text → is_of_word (get_or text n 0) ≡ false → take n text ++ word_of (drop n text) ≡ take n text
  word_ends inside test = ap (λ t. take n text ++ t) (word_more false inside test) ∙ append-nil (take n text)

  pub all_is_word : length text ≤ n → take n text ++ word_of (drop n text) ≡ take n text
  all_is_word past = ap (λ t. take n text ++ t) (at_drop_all word_of text n past) ∙ append-nil (take n text)

-- The word at the start of a text, by its characters.
use Rattle.std.proofs.Common.{◌≡◌, ℕ, zero, suc, ◌+◌, ◌<◌, ◌≤◌, Bool, true, false, ◌&&◌, ◌||◌, List, [], ◌∷◌, ◌++◌, length, get_or, take, drop, refl, sym, ap, ◌∙◌, subst, arith, inl, inr, ⊎_elim, ltb, length-take-le, get_or-take, append_assoc}
use Rattle.std.specs.Prelude.{◌⊎◌, IsTrue, All}
use Rattle.std.specs.Char.{encode_utf8, len_utf8}
use Rattle.std.specs.Str.{IsUtf8, IsCharBoundary, encode_utf8_all, chars}
use Rattle.std.proofs.lemmas.Bool.{both_ways, cases_lt, cases_eq, le-ltb, lt-ltb}
use Rattle.std.proofs.lemmas.List.{length-append, take-append-drop, take_at, get_or_at, drop_more, take_more, drop_all, get_or_default}
use Rattle.std.proofs.lemmas.List.Elements.{All-from_get_or}
use Rattle.std.proofs.lemmas.Str.{encode_same, encodes-append, encodes-chars, length-encode, length-le-encodes, IsUtf8-past_char, IsCharBoundary-from_drop}
use Rattle.lexer.specs.Letters.{is_letter, is_digit}
use Rattle.lexer.specs.Pieces.{IsWord}

-- the character may stand at that place of a word
abbrev pub fits_at : ℕ → ℕ → Bool
fits_at zero c = is_letter c
fits_at (suc i) c = is_letter c || is_digit c

abbrev pub FitsWord : List ℕ → Type 0
FitsWord cs = (i : ℕ) → i < length cs → fits_at i (get_or cs i 0) ≡ true

pub word_fits : (first : ℕ) (others : List ℕ) → is_letter first ≡ true → All (λ c. IsTrue (is_letter c || is_digit c)) others → FitsWord (first ∷ others)
word_fits first others letter more zero l = letter
word_fits first others letter more (suc i) l = more i 0 (omega arith)

pub fits_word : (cs bytes : List ℕ) → 0 < length cs → FitsWord cs → encode_utf8_all cs ≡ bytes → IsWord bytes
fits_word [] bytes l h e = absurd (omega arith)
fits_word (c ∷ cs) bytes l h e =
    record {
      first = c;
      others = cs;
      encoded = e;
      begins = h 0 l;
      goes_on = All-from_get_or (λ d. IsTrue (is_letter d || is_digit d)) cs 0 (λ i m. h (suc i) (omega arith));
    }

-- two lists of characters that begin one text
pub diverge : (ys ds : List ℕ) (c : ℕ) (r t : List ℕ) → encode_utf8_all ys ++ (encode_utf8 c ++ r) ≡ encode_utf8_all ds ++ t → (length (encode_utf8_all ds) ≤ length (encode_utf8_all ys)) ⊎ ((es : List ℕ) × (ds ≡ ys ++ c ∷ es))
diverge ys [] c r t e = inl (omega arith)
diverge [] (d ∷ ds) c r t e =
    let s = encode_same c d r (encode_utf8_all ds ++ t) (e ∙ append_assoc (encode_utf8 d) (encode_utf8_all ds) t) in
    inr (ds, ap (λ x. x ∷ ds) (sym s.0))
diverge (y ∷ ys) (d ∷ ds) c r t e =
    let whole = sym (append_assoc (encode_utf8 y) (encode_utf8_all ys) (encode_utf8 c ++ r)) ∙ (e ∙ append_assoc (encode_utf8 d) (encode_utf8_all ds) t) in
    let s = encode_same y d (encode_utf8_all ys ++ (encode_utf8 c ++ r)) (encode_utf8_all ds ++ t) whole in
    let size : length (encode_utf8 y) ≡ length (encode_utf8 d) = ap (λ x. length (encode_utf8 x)) s.0 in
    ⊎_elim
    (λ l. inl (omega (arith, l, length-append (encode_utf8 y) (encode_utf8_all ys), length-append (encode_utf8 d) (encode_utf8_all ds))))
    (λ (h : (es : List ℕ) × (ds ≡ ys ++ c ∷ es)). inr (h.0, ap (λ x. x ∷ ds) (sym s.0) ∙ ap (λ l. y ∷ l) h.1))
    (diverge ys ds c r t s.1)

-- the first k characters of a text are read, and they fit
pub record IsWordRead (text : List ℕ) (k size : ℕ) : Type 0 where
  pub count : k ≤ length (chars text)
  pub bytes : size ≡ length (encode_utf8_all (take k (chars text)))
  pub fits : (i : ℕ) → i < k → fits_at i (get_or (chars text) i 0) ≡ true

module _ (text : List ℕ) (k size : ℕ) (utf8 : IsUtf8 text) (w : IsWordRead text k size) where
  front : encode_utf8_all (take k (chars text)) ++ encode_utf8_all (drop k (chars text)) ≡ text
  front =
      sym (encodes-append (take k (chars text)) (drop k (chars text))) ∙ (ap encode_utf8_all (take-append-drop k (chars text)) ∙ encodes-chars text utf8)

  pub word_in_range : size ≤ length text
  word_in_range =
      omega (arith, w.bytes, ap length front, length-append (encode_utf8_all (take k (chars text))) (encode_utf8_all (drop k (chars text))))

  word_bytes : take size text ≡ encode_utf8_all (take k (chars text))
  word_bytes =
      ap (take size) (sym front) ∙ take_at (encode_utf8_all (take k (chars text))) (encode_utf8_all (drop k (chars text))) size (sym w.bytes)

  pub word_read : 0 < size → IsWord (take size text)
  word_read positive =
      let count = length-take-le k (chars text) w.count in
      ⊎_elim
      (λ (some : 0 < k).
      fits_word (take k (chars text)) (take size text) (omega arith)
      (λ i l. ap (fits_at i) (get_or-take k (chars text) i 0 (omega arith)) ∙ w.fits i (omega arith))
      (sym word_bytes))
      (λ (none : k ≤ 0).
      let zero_k : k ≡ 0 = omega arith in
      let empty : length (encode_utf8_all (take k (chars text))) ≡ 0 = ap (λ n. length (encode_utf8_all (take n (chars text)))) zero_k in
      absurd (omega (arith, w.bytes)))
      (cases_lt 0 k)

  pub word_longest_end : length (chars text) ≤ k → (n : ℕ) → n ≤ length text → n ≤ size
  word_longest_end over n l =
      let all : k ≡ length (chars text) = omega (arith, w.count) in
      let rest : length (encode_utf8_all (drop k (chars text))) ≡ 0 = ap (λ m. length (encode_utf8_all (drop m (chars text)))) all ∙ ap (λ l. length (encode_utf8_all l)) (drop_all (length (chars text)) (chars text) (omega arith)) in
      omega (arith, w.bytes, ap length front, length-append (encode_utf8_all (take k (chars text))) (encode_utf8_all (drop k (chars text))))

  next_char : (c : ℕ) → k < length (chars text) → c ≡ get_or (chars text) k c → encode_utf8_all (take k (chars text)) ++ (encode_utf8 c ++ encode_utf8_all (drop (k + 1) (chars text))) ≡ text
  next_char c l e =
      let rest : drop k (chars text) ≡ c ∷ drop (k + 1) (chars text) = drop_more (chars text) k c l ∙ ap (λ x. x ∷ drop (k + 1) (chars text)) (sym e) in
      ap (λ t. encode_utf8_all (take k (chars text)) ++ encode_utf8_all t) (sym rest) ∙ front

  pub word_longest_stop : (c : ℕ) → k < length (chars text) → c ≡ get_or (chars text) k c → fits_at k c ≡ false → (n : ℕ) → n ≤ length text → IsWord (take n text) → n ≤ size
  word_longest_stop c l e stops n within word =
      let ds = word.first ∷ word.others in
      let count = length-take-le k (chars text) w.count in
      let bytes : length (encode_utf8_all ds) ≡ n = ap length word.encoded ∙ length-take-le n text within in
      let same : encode_utf8_all (take k (chars text)) ++ (encode_utf8 c ++ encode_utf8_all (drop (k + 1) (chars text))) ≡ encode_utf8_all ds ++ drop n text = next_char c l e ∙ (sym (take-append-drop n text) ∙ ap (λ t. t ++ drop n text) (sym word.encoded)) in
      ⊎_elim
      (λ shorter. omega (arith, shorter, w.bytes))
      (λ (h : (es : List ℕ) × (ds ≡ take k (chars text) ++ c ∷ es)).
      let here : get_or ds k 0 ≡ c = ap (λ t. get_or t k 0) h.1 ∙ get_or_at (take k (chars text)) c h.0 0 k count in
      let inside : k < length ds = omega (arith, ap length h.1, length-append (take k (chars text)) (c ∷ h.0)) in
      absurd (both_ways _ stops (ap (fits_at k) (sym here) ∙ word_fits word.first word.others word.begins word.goes_on k inside)))
      (diverge (take k (chars text)) ds c (encode_utf8_all (drop (k + 1) (chars text))) (drop n text) same)

  pub word_more : (c : ℕ) → k < length (chars text) → c ≡ get_or (chars text) k c → fits_at k c ≡ true → IsWordRead text (k + 1) (size + len_utf8 c)
  word_more c l e fits =
      let next : take (k + 1) (chars text) ≡ take k (chars text) ++ c ∷ [] = take_more (chars text) k c l ∙ ap (λ x. take k (chars text) ++ x ∷ []) (sym e) in
      let here : get_or (chars text) k 0 ≡ c = get_or_default (chars text) k 0 c l ∙ sym e in
      record {
        count = omega arith;
        bytes = omega (arith, w.bytes, ap (λ t. length (encode_utf8_all t)) next, ap length (encodes-append (take k (chars text)) (c ∷ [])), length-append (encode_utf8_all (take k (chars text))) (encode_utf8_all (c ∷ [])), length-append (encode_utf8 c) [], length-encode c);
        fits = λ i m. ⊎_elim (λ (same : i ≡ k). subst (λ j. fits_at j (get_or (chars text) j 0) ≡ true) (sym same) (ap (fits_at k) here ∙ fits)) (λ other. w.fits i (omega arith)) (cases_eq i k);
      }

or_false : (t : Bool) → (t || false) ≡ t
or_false true = refl
or_false false = refl

-- where a digit fits: after the first character
pub fits_read : (text : List ℕ) (k size : ℕ) → IsWordRead text k size → (c : ℕ) → fits_at k c ≡ (is_letter c || (ltb 0 size && is_digit c))
fits_read text zero size w c =
    let none : ltb 0 size ≡ false = le-ltb 0 size (omega (arith, w.bytes)) in
    sym (or_false (is_letter c)) ∙ ap (λ t. is_letter c || (t && is_digit c)) (sym none)
fits_read text (suc k) size w c =
    let count = length-take-le (suc k) (chars text) w.count in
    let positive : 0 < size = omega (arith, w.bytes, count, length-le-encodes (take (suc k) (chars text))) in
    ap (λ t. is_letter c || (t && is_digit c)) (sym (lt-ltb 0 size positive))

pub word_none : (text : List ℕ) → IsWordRead text 0 0
word_none text = record { count = omega arith; bytes = refl; fits = λ i l. absurd (omega arith) }

-- a text may be cut after a word
past_chars : (cs rest bs : List ℕ) → IsUtf8 bs → bs ≡ encode_utf8_all cs ++ rest → IsUtf8 rest
past_chars [] rest bs utf8 e = subst IsUtf8 e utf8
past_chars (c ∷ cs) rest bs utf8 e =
    let whole = e ∙ append_assoc (encode_utf8 c) (encode_utf8_all cs) rest in
    past_chars cs rest (encode_utf8_all cs ++ rest) (IsUtf8-past_char bs (encode_utf8_all cs ++ rest) c utf8 whole) refl

pub word_boundary : (text : List ℕ) (n : ℕ) → IsUtf8 text → n ≤ length text → IsWord (take n text) → IsCharBoundary text n
word_boundary text n utf8 within w =
    IsCharBoundary-from_drop text n within (past_chars (w.first ∷ w.others) (drop n text) text utf8 (sym (take-append-drop n text) ∙ ap (λ t. t ++ drop n text) (sym w.encoded)))

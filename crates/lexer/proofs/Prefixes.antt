-- The word at the start of a text, where ASCII stands after its ASCII letters and digits.
use Rattle.std.proofs.Common.{◌≡◌, ℕ, zero, suc, ◌+◌, ◌<◌, ◌≤◌, true, false, List, [], ◌∷◌, ◌++◌, length, get_or, take, drop, sym, ap, ◌∙◌, subst, arith, ⊎_elim}
use Rattle.std.specs.Char.{encode_utf8}
use Rattle.std.specs.Str.{IsAscii, encode_utf8_all}
use Rattle.std.proofs.lemmas.Bool.{both_ways, cases_lt}
use Rattle.std.proofs.lemmas.Bool.Decides.{nat_tests}
use Rattle.std.proofs.lemmas.List.{length-append, take-append-drop, append-nil, get_or_at, drop_more, get_or_past}
use Rattle.std.proofs.lemmas.Str.{encodes-IsAscii}
use Rattle.lexer.specs.Letters.{is_ascii_letter, is_ascii_letter_or_digit}
use Rattle.lexer.specs.Pieces.{IsWord}
use Rattle.lexer.proofs.AsciiLetters.{letter_ascii}
use Rattle.lexer.proofs.Groups.{byte_in, taken, word_char}
use Rattle.lexer.proofs.Longest.{bytes_word}
use Rattle.lexer.proofs.Names.{fits_at, diverge, word_fits}
use Rattle.lexer.proofs.Starts.{word_small, one_ascii}

letter_small : (b : ℕ) → is_ascii_letter b ≡ true → b < 128
letter_small b h = grind (arith, nat_tests)

-- n bytes of ASCII letters and digits at the start of the text, and ASCII after them that is none
pub record IsPrefix (text : List ℕ) (n : ℕ) : Type 0 where
  pub in_range : n ≤ length text
  pub letter : 0 < n → is_ascii_letter (get_or text 0 0) ≡ true
  pub word : (i : ℕ) → 0 < i → i < n → is_ascii_letter_or_digit (get_or text i 0) ≡ true
  pub small : get_or text n 0 < 128
  pub stops : n < length text → fits_at n (get_or text n 0) ≡ false

pub letter_prefix : (text : List ℕ) (n : ℕ) → 0 < n → n ≤ length text → is_ascii_letter (get_or text 0 0) ≡ true → ((i : ℕ) → 0 < i → i < n → is_ascii_letter_or_digit (get_or text i 0) ≡ true) → get_or text n 0 < 128 → (n < length text → is_ascii_letter_or_digit (get_or text n 0) ≡ false) → IsPrefix text n
letter_prefix text zero positive in_range letter word small stops = absurd (omega arith)
letter_prefix text (suc k) positive in_range letter word small stops =
    record {
      in_range = in_range;
      letter = λ _. letter;
      word = word;
      small = small;
      stops = λ inside. word_char (get_or text (suc k) 0) small ∙ stops inside;
    }

pub no_prefix : (text : List ℕ) → get_or text 0 0 < 128 → is_ascii_letter (get_or text 0 0) ≡ false → IsPrefix text 0
no_prefix text small other =
    record {
      in_range = omega arith;
      letter = λ l. absurd (omega arith);
      word = λ i p l. absurd (omega arith);
      small = small;
      stops = λ _. letter_ascii (get_or text 0 0) small ∙ other;
    }

module _ (text : List ℕ) (n : ℕ) (p : IsPrefix text n) where
  byte_small : (i : ℕ) → i < n → get_or text i 0 < 128
  byte_small zero l = letter_small (get_or text 0 0) (p.letter l)
  byte_small (suc i) l = word_small (get_or text (suc i) 0) (p.word (suc i) (omega arith) l)

  prefix_ascii : IsAscii (take n text)
  prefix_ascii i =
      let size = taken n text p.in_range in
      ⊎_elim
      (λ inside. subst (λ b. b < 128) (sym (byte_in n text i inside)) (byte_small i inside))
      (λ (past : n ≤ i). subst (λ b. b < 128) (sym (get_or_past (take n text) i 0 (omega arith))) (omega arith))
      (cases_lt i n)

  pub prefix_word : 0 < n → IsWord (take n text)
  prefix_word positive =
      let size = taken n text p.in_range in
      bytes_word (take n text) (omega arith) prefix_ascii
      (ap is_ascii_letter (byte_in n text 0 positive) ∙ p.letter positive)
      (λ i q l. ap is_ascii_letter_or_digit (byte_in n text i (omega arith)) ∙ p.word i q (omega arith))

  -- the text by its characters: the prefix, the one that stops it, and the rest
  split : n < length text → encode_utf8_all (take n text) ++ (encode_utf8 (get_or text n 0) ++ drop (n + 1) text) ≡ text
  split inside =
      let c = get_or text n 0 in
      let one : encode_utf8 c ≡ c ∷ [] = sym (append-nil (encode_utf8 c)) ∙ encodes-IsAscii (c ∷ []) (one_ascii c p.small) in
      let rest : encode_utf8 c ++ drop (n + 1) text ≡ drop n text = ap (λ t. t ++ drop (n + 1) text) one ∙ sym (drop_more text n 0 inside) in
      ap (λ t. t ++ (encode_utf8 c ++ drop (n + 1) text)) (encodes-IsAscii (take n text) prefix_ascii)
      ∙ (ap (λ t. take n text ++ t) rest ∙ take-append-drop n text)

  longer : n < length text → (m : ℕ) → m ≤ length text → IsWord (take m text) → m ≤ n
  longer inside m within word =
      let c = get_or text n 0 in
      let ds = word.first ∷ word.others in
      let size = taken n text p.in_range in
      let read : length (encode_utf8_all (take n text)) ≡ n = ap length (encodes-IsAscii (take n text) prefix_ascii) ∙ size in
      let bytes : length (encode_utf8_all ds) ≡ m = ap length word.encoded ∙ taken m text within in
      let same : encode_utf8_all (take n text) ++ (encode_utf8 c ++ drop (n + 1) text) ≡ encode_utf8_all ds ++ drop m text = split inside ∙ (sym (take-append-drop m text) ∙ ap (λ t. t ++ drop m text) (sym word.encoded)) in
      ⊎_elim
      (λ shorter. omega (arith, shorter, bytes, read))
      (λ (h : (es : List ℕ) × (ds ≡ take n text ++ c ∷ es)).
      let here : get_or ds n 0 ≡ c = ap (λ t. get_or t n 0) h.1 ∙ get_or_at (take n text) c h.0 0 n size in
      let there : n < length ds = omega (arith, ap length h.1, length-append (take n text) (c ∷ h.0)) in
      absurd (both_ways _ (p.stops inside) (ap (fits_at n) (sym here) ∙ word_fits word.first word.others word.begins word.goes_on n there)))
      (diverge (take n text) ds c (drop (n + 1) text) (drop m text) same)

  pub prefix_longest : (m : ℕ) → m ≤ length text → IsWord (take m text) → m ≤ n
  prefix_longest m within word =
      ⊎_elim (λ inside. longer inside m within word) (λ (past : length text ≤ n). omega arith) (cases_lt n (length text))

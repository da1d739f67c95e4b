-- The longest piece at the start of an ASCII text: names, numbers, literals and white space.
use Rattle.std.proofs.Common.{◌≡◌, ◌==◌, ℕ, suc, ◌-◌, ◌<◌, ◌≤◌, Bool, true, false, ◌&&◌, ◌||◌, List, [], ◌∷◌, length, get_or, take, sym, ap, ◌∙◌, subst, arith, ⊎_elim}
use Rattle.std.specs.Prelude.{IsTrue}
use Rattle.std.specs.Char.{is_ascii_digit}
use Rattle.std.specs.Str.{IsAscii}
use Rattle.std.proofs.lemmas.Bool.{false≢true, both_ways, and_parts, and_from, or_right, or_left, or_cases, cond-true, cond-false, cases_lt, eqb-true, eq-eqb}
use Rattle.std.proofs.lemmas.Bool.Decides.{nat_tests}
use Rattle.std.proofs.lemmas.List.{get_or_past}
use Rattle.lexer.specs.declared.token.TokenKind.{TokenKind}
use Rattle.lexer.specs.declared.token.TokenKind.TheVariants.{Identifier, Number, InterpretedString, RawString, Rune}
use Rattle.lexer.specs.declared.pieces.PieceKind.TheVariants.{TokenOf}
use Rattle.lexer.specs.declared.pieces.Piece.{Piece}
use Rattle.lexer.specs.Letters.{is_ascii_letter, is_ascii_letter_or_digit, is_letter, is_digit}
use Rattle.lexer.specs.Spelling.{same_kind, spelling, is_keyword}
use Rattle.lexer.specs.Dispatch.{token_piece, keyword_of}
use Rattle.lexer.specs.Pieces.{IsWord, IsNumber, starts_number, is_hexadecimal, goes_on, IsToken, Reads}
use Rattle.lexer.specs.Cut.{CanBegin, IsLongest, opens_comment}
use Rattle.lexer.proofs.Spelled.{is_spelled, Group, Words, Operators, group_of, keyword_spelled, no_keyword, spelling_dot}
use Rattle.lexer.proofs.PieceKinds.{letter_group, digit_group}
use Rattle.std.proofs.lemmas.Str.{encodes-IsAscii, IsAscii-take}
use Rattle.std.proofs.lemmas.List.Elements.{All-from_get_or}
use Rattle.lexer.proofs.AsciiLetters.{letter_ascii}
use Rattle.lexer.proofs.Groups.{byte_in, taken, grouped_at, word_char, piece_number, IsOperatorAt, IsCommentAt, piece_operator, is_word_at}

-- what no piece passes is the longest
pub at_most : (n m : ℕ) → (n < m → ⊥) → m ≤ n
at_most n m h = ⊎_elim (λ l. absurd (h l)) (λ l. l) (cases_lt n m)

-- where the first byte is no slash, no comment opens
pub no_slash : (text : List ℕ) (g : Group) → group_of (get_or text 0 0) ≡ g → (g ≡ Operators → ⊥) → opens_comment text ≡ true → ⊥
unfolding group_of
no_slash text g e ne h =
    let slash : get_or text 0 0 ≡ 47 = eqb-true _ _ (and_parts _ _ h).0 in
    ne (sym e ∙ ap group_of slash)

-- names and keywords
token_of_keyword : (k : TokenKind) (bytes : List ℕ) → is_keyword k ≡ true → bytes ≡ spelling k → IsToken k bytes
unfolding IsToken is_keyword same_kind
token_of_keyword Identifier bytes h e = absurd (false≢true h)
token_of_keyword Number bytes h e = absurd (false≢true h)
token_of_keyword InterpretedString bytes h e = absurd (false≢true h)
token_of_keyword RawString bytes h e = absurd (false≢true h)
token_of_keyword Rune bytes h e = absurd (false≢true h)
token_of_keyword k bytes h e = e

name_token : (bytes : List ℕ) → IsWord bytes → keyword_of bytes ≡ Identifier → IsToken (keyword_of bytes) bytes
unfolding IsToken
name_token bytes word found = subst (λ k. IsToken k bytes) (sym found) (word, no_keyword bytes found)

word_token : (bytes : List ℕ) → IsWord bytes → IsToken (keyword_of bytes) bytes
word_token bytes word =
    ⊎_elim (name_token bytes word) (λ (h : (is_keyword (keyword_of bytes) ≡ true) × (bytes ≡ spelling (keyword_of bytes))). token_of_keyword (keyword_of bytes) bytes h.0 h.1) (keyword_spelled bytes)

-- ASCII letters and digits are a word
pub bytes_word : (bytes : List ℕ) → 0 < length bytes → IsAscii bytes → is_ascii_letter (get_or bytes 0 0) ≡ true → ((i : ℕ) → 0 < i → i < length bytes → is_ascii_letter_or_digit (get_or bytes i 0) ≡ true) → IsWord bytes
bytes_word [] size ascii first others = absurd (omega arith)
bytes_word (b ∷ bs) size ascii first others =
    record {
      first = b;
      others = bs;
      encoded = encodes-IsAscii (b ∷ bs) ascii;
      begins = letter_ascii b (ascii 0) ∙ first;
      goes_on = All-from_get_or (λ c. IsTrue (is_letter c || is_digit c)) bs 0 (λ i l. word_char (get_or bs i 0) (ascii (suc i)) ∙ others (suc i) (omega arith) (omega arith));
    }

pub reads_word : (bytes : List ℕ) → IsWord bytes → Reads (TokenOf (keyword_of bytes)) bytes
unfolding Reads
reads_word bytes word = word_token bytes word

-- how many bytes the word at the start of the text has
pub record IsWordSize (text : List ℕ) (n : ℕ) : Type 0 where
  pub ascii : IsAscii text
  pub letter : is_ascii_letter (get_or text 0 0) ≡ true
  pub positive : 0 < n
  pub in_range : n ≤ length text
  pub word : (i : ℕ) → 0 < i → i < n → is_ascii_letter_or_digit (get_or text i 0) ≡ true
  pub stops : n < length text → is_ascii_letter_or_digit (get_or text n 0) ≡ false

module _ (text : List ℕ) (n : ℕ) (w : IsWordSize text n) where
  word_no_longer : (q : Piece) → CanBegin q text → n < q.size → ⊥
  word_no_longer q h longer =
      let bytes = take q.size text in
      let size = taken q.size text h.within in
      let group = letter_group _ w.letter in
      let positive = w.positive in
      ⊎_elim
      (λ g.
      both_ways _ (w.stops (omega (arith, h.within)))
      (ap is_ascii_letter_or_digit (sym (byte_in q.size text n longer)) ∙ is_word_at q.kind bytes (IsAscii-take text q.size w.ascii) (sym g ∙ group) h.reads n (omega arith)))
      (λ (d : (q.kind ≡ TokenOf Number) × (get_or text 0 0 ≡ 46) × (is_ascii_digit (get_or text 1 0) ≡ true)).
      both_ways _ (ap is_ascii_letter d.1) w.letter)
      (grouped_at q text (omega arith) h)

  pub word_longest : IsLongest (token_piece (keyword_of (take n text)) n) text
  word_longest =
      let bytes = take n text in
      let size = taken n text w.in_range in
      let positive = w.positive in
      let word = bytes_word bytes (omega arith) (IsAscii-take text n w.ascii) (ap is_ascii_letter (byte_in n text 0 w.positive) ∙ w.letter) (λ i p l. ap is_ascii_letter_or_digit (byte_in n text i (omega arith)) ∙ w.word i p (omega arith)) in
      record {
        begins = record {
          within = w.in_range;
          reads = reads_word bytes word;
          only_comment = λ opens. absurd (no_slash text Words (letter_group _ w.letter) (λ e. cc) opens);
        };
        longest = λ q h. at_most n q.size (word_no_longer q h);
      }

-- numbers
pub record IsNumberSize (text : List ℕ) (n : ℕ) : Type 0 where
  pub starts : starts_number (get_or text 0 0) (get_or text 1 0) ≡ true
  pub positive : 0 < n
  pub in_range : n ≤ length text
  pub number : (i : ℕ) → 0 < i → i < n → goes_on (is_hexadecimal text) (get_or text (i - 1) 0) (get_or text i 0) ≡ true
  pub stops : n < length text → goes_on (is_hexadecimal text) (get_or text (n - 1) 0) (get_or text n 0) ≡ false

-- a digit goes on with any number
digit_goes_on : (hexadecimal : Bool) (previous b : ℕ) → is_ascii_digit b ≡ true → goes_on hexadecimal previous b ≡ true
digit_goes_on hexadecimal previous b h =
    let no_sign : (b == 43 || b == 45) ≡ false = grind (arith, nat_tests) in
    cond-false _ _ _ no_sign ∙ or_left _ _ (or_right _ _ h)

hexadecimal_in : (n : ℕ) (text : List ℕ) → 1 < n → is_hexadecimal (take n text) ≡ is_hexadecimal text
hexadecimal_in n text h =
    let e0 = byte_in n text 0 (omega arith) in
    let e1 = byte_in n text 1 h in
    ap (λ x. x == 48 && (get_or (take n text) 1 0 == 120 || get_or (take n text) 1 0 == 88)) e0
    ∙ ap (λ x. get_or text 0 0 == 48 && (x == 120 || x == 88)) e1

reads_number : (bytes : List ℕ) → IsNumber bytes → Reads (TokenOf Number) bytes
unfolding Reads IsToken
reads_number bytes h = h

number_reads : (bytes : List ℕ) → Reads (TokenOf Number) bytes → IsNumber bytes
unfolding Reads IsToken
number_reads bytes h = h

module _ (text : List ℕ) (n : ℕ) (w : IsNumberSize text n) where
  -- a number that begins with a dot has the digit after it
  dot_long : get_or text 0 0 ≡ 46 → is_ascii_digit (get_or text 1 0) ≡ true → 1 < n
  dot_long dot digit =
      ⊎_elim
      (λ l. l)
      (λ (short : n ≤ 1).
      let one : n ≡ 1 = omega (arith, w.positive) in
      ⊎_elim
      (λ (inside : 1 < length text).
      absurd (both_ways _ (subst (λ m. goes_on (is_hexadecimal text) (get_or text (m - 1) 0) (get_or text m 0) ≡ false) one (w.stops (omega arith))) (digit_goes_on (is_hexadecimal text) (get_or text (1 - 1) 0) (get_or text 1 0) digit)))
      (λ (past : length text ≤ 1). absurd (both_ways _ (ap is_ascii_digit (get_or_past text 1 0 past)) digit))
      (cases_lt 1 (length text)))
      (cases_lt 1 n)

  number_begins : starts_number (get_or (take n text) 0 0) (get_or (take n text) 1 0) ≡ true
  number_begins =
      let first = byte_in n text 0 w.positive in
      ⊎_elim
      (λ digit. or_left _ _ (ap is_ascii_digit first ∙ digit))
      (λ d.
      let p = and_parts _ _ d in
      let long = dot_long (eqb-true _ _ p.0) p.1 in
      or_right _ _ (and_from _ _ (ap (λ x. x == 46) first ∙ p.0) (ap is_ascii_digit (byte_in n text 1 long) ∙ p.1)))
      (or_cases _ _ w.starts)

  number_bytes : IsNumber (take n text)
  number_bytes =
      let size = taken n text w.in_range in
      record {
        begins = number_begins;
        goes_on = λ i l.
            let inside : suc i < n = omega arith in
            let hex = hexadecimal_in n text (omega arith) in
            let e0 = byte_in n text i (omega arith) in
            let e1 = byte_in n text (suc i) inside in
            let same : suc i - 1 ≡ i = omega arith in
            let here : goes_on (is_hexadecimal text) (get_or text i 0) (get_or text (suc i) 0) ≡ true = subst (λ j. goes_on (is_hexadecimal text) (get_or text j 0) (get_or text (suc i) 0) ≡ true) same (w.number (suc i) (omega arith) inside) in
            ap (λ x. goes_on x (get_or (take n text) i 0) (get_or (take n text) (suc i) 0)) hex
            ∙ (ap (λ x. goes_on (is_hexadecimal text) x (get_or (take n text) (suc i) 0)) e0
            ∙ (ap (λ x. goes_on (is_hexadecimal text) (get_or text i 0) x) e1 ∙ here));
      }

  -- a longer number would go on where this one stops
  longer_number : (m : ℕ) → m ≤ length text → n < m → IsNumber (take m text) → ⊥
  longer_number m within longer h =
      let size = taken m text within in
      let positive = w.positive in
      let next : suc (n - 1) ≡ n = omega arith in
      let hex = hexadecimal_in m text (omega arith) in
      let e0 = byte_in m text (n - 1) (omega arith) in
      let e1 = byte_in m text n longer in
      let there : goes_on (is_hexadecimal (take m text)) (get_or (take m text) (n - 1) 0) (get_or (take m text) n 0) ≡ true = subst (λ j. goes_on (is_hexadecimal (take m text)) (get_or (take m text) (n - 1) 0) (get_or (take m text) j 0) ≡ true) next (h.goes_on (n - 1) (omega arith)) in
      let here =
      ap (λ x. goes_on x (get_or text (n - 1) 0) (get_or text n 0)) (sym hex)
      ∙ (ap (λ x. goes_on (is_hexadecimal (take m text)) x (get_or text n 0)) (sym e0)
      ∙ (ap (λ x. goes_on (is_hexadecimal (take m text)) (get_or (take m text) (n - 1) 0) x) (sym e1) ∙ there)) in
      both_ways _ (w.stops (omega arith)) here

  -- an operator that begins with a dot is no longer than a number that does
  dot_operator : (q : Piece) → CanBegin q text → n < q.size → get_or text 0 0 ≡ 46 → is_ascii_digit (get_or text 1 0) ≡ true → IsOperatorAt q.kind (take q.size text) → ⊥
  dot_operator q h longer dot digit o =
      let positive = w.positive in
      let size = taken q.size text h.within in
      let long = dot_long dot digit in
      let bytes_first : get_or (spelling o.kind) 0 0 ≡ 46 = ap (λ l. get_or l 0 0) (sym o.same) ∙ (byte_in q.size text 0 (omega arith) ∙ dot) in
      let bytes_second : get_or (spelling o.kind) 1 0 ≡ get_or text 1 0 = ap (λ l. get_or l 1 0) (sym o.same) ∙ byte_in q.size text 1 (omega arith) in
      let test : (is_spelled o.kind && get_or (spelling o.kind) 0 0 == 46) ≡ true = and_from _ _ o.spelled (eq-eqb _ _ bytes_first) in
      let either : (length (spelling o.kind) == 1 || get_or (spelling o.kind) 1 0 == 46) ≡ true = sym (cond-true _ _ _ test) ∙ spelling_dot o.kind in
      ⊎_elim
      (λ e. let one : length (spelling o.kind) ≡ 1 = eqb-true _ _ e in absurd (omega (arith, ap length o.same)))
      (λ e.
      let second : get_or text 1 0 ≡ 46 = sym bytes_second ∙ eqb-true _ _ e in
      both_ways _ (ap is_ascii_digit second) digit)
      (or_cases _ _ either)

  number_no_longer : (q : Piece) → CanBegin q text → n < q.size → ⊥
  unfolding group_of
  number_no_longer q h longer =
      let positive = w.positive in
      let is_number = λ (e : q.kind ≡ TokenOf Number). longer_number q.size h.within longer (number_reads (take q.size text) (subst (λ s. Reads s (take q.size text)) e h.reads)) in
      ⊎_elim
      (λ g.
      ⊎_elim
      (λ digit. is_number (piece_number q.kind (sym g ∙ digit_group (get_or text 0 0) digit)))
      (λ d.
      let p = and_parts _ _ d in
      let dot : get_or text 0 0 ≡ 46 = eqb-true _ _ p.0 in
      ⊎_elim
      (λ (c : IsCommentAt q.kind (take q.size text)).
      let slash : get_or (take q.size text) 0 0 ≡ 47 = eqb-true _ _ (and_parts _ _ c.1).0 in
      let both : 46 ≡ 47 = sym dot ∙ (sym (byte_in q.size text 0 (omega arith)) ∙ slash) in
      absurd (omega arith))
      (dot_operator q h longer dot p.1)
      (piece_operator q.kind (take q.size text) (sym g ∙ ap group_of dot) h.reads))
      (or_cases _ _ w.starts))
      (λ (d : (q.kind ≡ TokenOf Number) × (get_or text 0 0 ≡ 46) × (is_ascii_digit (get_or text 1 0) ≡ true)). is_number d.0)
      (grouped_at q text (omega arith) h)

  number_opens : opens_comment text ≡ true → ⊥
  number_opens opens =
      let slash : get_or text 0 0 ≡ 47 = eqb-true _ _ (and_parts _ _ opens).0 in
      both_ways _ (ap (λ b. starts_number b (get_or text 1 0)) slash) w.starts

  pub number_longest : IsLongest (token_piece Number n) text
  number_longest =
      record {
        begins = record {
          within = w.in_range;
          reads = reads_number (take n text) number_bytes;
          only_comment = λ opens. absurd (number_opens opens);
        };
        longest = λ q h. at_most n q.size (number_no_longer q h);
      }

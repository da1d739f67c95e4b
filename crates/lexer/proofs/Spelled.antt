-- Facts on the spelling of each keyword and operator, by looking at each.
use Rattle.std.proofs.Common.{◌≡◌, ◌==◌, ℕ, suc, ◌<◌, ◌≤◌, Bool, true, false, not, cond, ◌&&◌, ◌||◌, List, [], ◌∷◌, length, get_or, take, Option, Some, None, refl, sym, ap, ◌∙◌, subst, ltb, leb, arith, inl, inr, rules}
use Rattle.std.specs.Prelude.{◌⊎◌, IfSome}
use Rattle.std.specs.Char.{is_ascii_digit}
use Rattle.std.specs.Str.{bytes_eq}
use Rattle.std.proofs.lemmas.Slice.Eq.{HasBytesAt, bytes_eq-Decides}
use Rattle.std.proofs.lemmas.Bool.{false≢true, and_parts, cond_both}
use Rattle.lexer.specs.declared.token.TokenKind.{TokenKind}
use Rattle.lexer.specs.declared.token.TokenKind.TheVariants.{Identifier, Number, InterpretedString, RawString, Rune, Plus, Minus, Star, Slash, Percent, Ampersand, Pipe, Caret, ShiftLeft, ShiftRight, AndNot, PlusAssign, MinusAssign, StarAssign, SlashAssign, PercentAssign, AmpersandAssign, PipeAssign, CaretAssign, ShiftLeftAssign, ShiftRightAssign, AndNotAssign, LogicalAnd, LogicalOr, Arrow, Increment, Decrement, EqualEqual, LessThan, GreaterThan, Assign, Bang, Tilde, NotEqual, LessOrEqual, GreaterOrEqual, Define, Ellipsis, LeftParenthesis, RightParenthesis, LeftBracket, RightBracket, LeftBrace, RightBrace, Comma, Semicolon, Dot, Colon}
use Rattle.lexer.specs.declared.pieces.Piece.{Piece}
use Rattle.lexer.specs.Letters.{is_ascii_letter, is_ascii_letter_or_digit}
use Rattle.lexer.specs.Pieces.{is_white_space}
use Rattle.lexer.specs.Spelling.{spelling, same_kind, keywords, is_keyword}
use Rattle.lexer.specs.Dispatch.{kind_in, keyword_of, token_piece, operator_of, is_quote}

-- a kind with one spelling
unfoldable pub is_spelled : TokenKind → Bool
is_spelled Identifier = false
is_spelled Number = false
is_spelled InterpretedString = false
is_spelled RawString = false
is_spelled Rune = false
is_spelled _ = true

abbrev pub is_operator : TokenKind → Bool
is_operator k = is_spelled k && not (is_keyword k)

-- what can begin with a byte
pub data Group : Type 0 where
  Words : Group
  Numbers : Group
  Spaces : Group
  Quotes : Group
  Operators : Group

unfoldable pub group_of : ℕ → Group
group_of b =
    cond (leb 128 b || is_ascii_letter b) Words (cond (is_ascii_digit b) Numbers (cond (is_white_space b || b == 10) Spaces (cond (is_quote b) Quotes Operators)))

unfoldable pub kind_group : TokenKind → Group
kind_group Identifier = Words
kind_group Number = Numbers
kind_group InterpretedString = Quotes
kind_group RawString = Quotes
kind_group Rune = Quotes
kind_group k = cond (is_keyword k) Words Operators

pub spelled_group : (k : TokenKind) → cond (is_spelled k) (group_of (get_or (spelling k) 0 0)) (kind_group k) ≡ kind_group k
unfolding spelling is_keyword is_spelled group_of kind_group same_kind
spelled_group Identifier = refl
spelled_group _ = refl

-- a keyword is found by its spelling
pub keyword_found : (k : TokenKind) → cond (is_keyword k) (keyword_of (spelling k)) k ≡ k
unfolding spelling is_keyword keyword_of same_kind
keyword_found Identifier = refl
keyword_found _ = refl

-- the bytes of a keyword stand in words
abbrev pub are_word : List ℕ → Bool
are_word [] = true
are_word (b ∷ bs) = is_ascii_letter_or_digit b && are_word bs

pub keyword_word : (k : TokenKind) → cond (is_keyword k) (are_word (spelling k)) true ≡ true
unfolding spelling is_keyword same_kind
keyword_word Identifier = refl
keyword_word _ = refl

pub keyword_is_spelled : (k : TokenKind) → cond (is_keyword k) (is_spelled k) true ≡ true
unfolding is_keyword is_spelled same_kind
keyword_is_spelled Identifier = refl
keyword_is_spelled _ = refl

-- a keyword begins with a letter
pub keyword_letter : (k : TokenKind) → cond (is_keyword k) (is_ascii_letter (get_or (spelling k) 0 0)) true ≡ true
unfolding spelling is_keyword same_kind
keyword_letter Identifier = refl
keyword_letter _ = refl

-- the last byte of a spelling is ASCII
abbrev pub last : List ℕ → ℕ
last [] = 0
last (b ∷ []) = b
last (b ∷ c ∷ bs) = last (c ∷ bs)

pub spelling_last : (k : TokenKind) → ltb (last (spelling k)) 128 ≡ true
unfolding spelling same_kind
spelling_last Identifier = refl
spelling_last _ = refl

-- no byte of a spelling is 0
abbrev pub are_nonzero : List ℕ → Bool
are_nonzero [] = true
are_nonzero (b ∷ bs) = ltb 0 b && are_nonzero bs

pub spelling_nonzero : (k : TokenKind) → are_nonzero (spelling k) ≡ true
unfolding spelling same_kind
spelling_nonzero Identifier = refl
spelling_nonzero _ = refl

pub spelling_size : (k : TokenKind) → cond (is_spelled k) (ltb 0 (length (spelling k))) true ≡ true
unfolding spelling is_spelled same_kind
spelling_size Identifier = refl
spelling_size _ = refl

-- an operator that begins with a dot is the dot, or has a second one
pub spelling_dot : (k : TokenKind) → cond (is_spelled k && get_or (spelling k) 0 0 == 46) (length (spelling k) == 1 || get_or (spelling k) 1 0 == 46) true ≡ true
unfolding spelling is_spelled same_kind
spelling_dot Identifier = refl
spelling_dot _ = refl

-- no operator begins a comment
pub spelling_no_comment : (k : TokenKind) → (get_or (spelling k) 0 0 == 47 && (get_or (spelling k) 1 0 == 47 || get_or (spelling k) 1 0 == 42)) ≡ false
unfolding spelling same_kind
spelling_no_comment Identifier = refl
spelling_no_comment _ = refl

-- the operator that is found has at least n bytes
abbrev pub fits : Option Piece → ℕ → Bool
fits None n = false
fits (Some p) n = leb n p.size

fits_either : (t : Bool) (p q : Piece) (n : ℕ) → fits (Some p) n ≡ true → fits (Some q) n ≡ true → fits (Some (cond t p q)) n ≡ true
fits_either true p q n h k = h
fits_either false p q n h k = k

-- the operator that is found at a text that begins with the spelling of k
abbrev found_at : TokenKind → ℕ → ℕ → Option Piece
found_at k second third =
    operator_of (get_or (spelling k) 0 0) (cond (ltb 1 (length (spelling k))) (get_or (spelling k) 1 0) second) (cond (ltb 2 (length (spelling k))) (get_or (spelling k) 2 0) third)

found_long : (k : TokenKind) (c d : ℕ) → cond (is_operator k) (fits (found_at k c d) (length (spelling k))) true ≡ true
unfolding spelling is_keyword is_spelled operator_of same_kind
found_long Plus c d = fits_either (c == 43) _ _ 1 refl (fits_either (c == 61) _ _ 1 refl refl)
found_long Minus c d = fits_either (c == 45) _ _ 1 refl (fits_either (c == 61) _ _ 1 refl refl)
found_long Pipe c d = fits_either (c == 124) _ _ 1 refl (fits_either (c == 61) _ _ 1 refl refl)
found_long Star c d = fits_either (c == 61) _ _ 1 refl refl
found_long Slash c d = fits_either (c == 61) _ _ 1 refl refl
found_long Percent c d = fits_either (c == 61) _ _ 1 refl refl
found_long Caret c d = fits_either (c == 61) _ _ 1 refl refl
found_long Assign c d = fits_either (c == 61) _ _ 1 refl refl
found_long Bang c d = fits_either (c == 61) _ _ 1 refl refl
found_long Colon c d = fits_either (c == 61) _ _ 1 refl refl
found_long Ampersand c d = fits_either (c == 94) _ _ 1 (fits_either (d == 61) _ _ 1 refl refl) (fits_either (c == 38) _ _ 1 refl (fits_either (c == 61) _ _ 1 refl refl))
found_long LessThan c d = fits_either (c == 60) _ _ 1 (fits_either (d == 61) _ _ 1 refl refl) (fits_either (c == 45) _ _ 1 refl (fits_either (c == 61) _ _ 1 refl refl))
found_long GreaterThan c d = fits_either (c == 62) _ _ 1 (fits_either (d == 61) _ _ 1 refl refl) (fits_either (c == 61) _ _ 1 refl refl)
found_long Dot c d = fits_either (c == 46 && d == 46) _ _ 1 refl refl
found_long ShiftLeft c d = fits_either (d == 61) _ _ 2 refl refl
found_long ShiftRight c d = fits_either (d == 61) _ _ 2 refl refl
found_long AndNot c d = fits_either (d == 61) _ _ 2 refl refl
found_long _ c d = refl

cond_same : (t : Bool) (x y : ℕ) → (t ≡ true → x ≡ y) → cond t x y ≡ y
cond_same true x y h = h refl
cond_same false x y h = refl

pub ltb_lt : (a b : ℕ) → ltb a b ≡ true → a < b
ltb_lt a b h = search rules

pub operator_longest : (k : TokenKind) (b c d : ℕ) → is_operator k ≡ true → get_or (spelling k) 0 0 ≡ b → (1 < length (spelling k) → get_or (spelling k) 1 0 ≡ c) → (2 < length (spelling k) → get_or (spelling k) 2 0 ≡ d) → fits (operator_of b c d) (length (spelling k)) ≡ true
operator_longest k b c d operator first second third =
    let e1 = cond_same (ltb 1 (length (spelling k))) (get_or (spelling k) 1 0) c (λ t. second (ltb_lt _ _ t)) in
    let e2 = cond_same (ltb 2 (length (spelling k))) (get_or (spelling k) 2 0) d (λ t. third (ltb_lt _ _ t)) in
    let h : fits (found_at k c d) (length (spelling k)) ≡ true = subst (λ t. cond t (fits (found_at k c d) (length (spelling k))) true ≡ true) operator (found_long k c d) in
    ap (λ x. fits (operator_of x c d) (length (spelling k))) (sym first)
    ∙ (ap (λ x. fits (operator_of (get_or (spelling k) 0 0) x d) (length (spelling k))) (sym e1)
    ∙ (ap (λ x. fits (operator_of (get_or (spelling k) 0 0) (cond (ltb 1 (length (spelling k))) (get_or (spelling k) 1 0) c) x) (length (spelling k))) (sym e2) ∙ h))

-- what is found is spelled there
pub record IsSpelledAt (p : Piece) (text : List ℕ) : Type 0 where
  pub kind : TokenKind
  pub operator : is_operator kind ≡ true
  pub piece : p ≡ token_piece kind (length (spelling kind))
  pub bytes : HasBytesAt text 0 (spelling kind)

abbrev Sound : List ℕ → Option Piece → Type 0
Sound text o = IfSome o (λ p. IsSpelledAt p text)

is_eq : (a b : ℕ) → (a == b) ≡ true → a ≡ b
is_eq a b h = search rules

module _ (text : List ℕ) where
  either : (t : Bool) (p q : Option Piece) → (t ≡ true → Sound text p) → Sound text q → Sound text (cond t p q)
  either true p q h k = h refl
  either false p q h k = k

  either_piece : (t : Bool) (p q : Piece) → (t ≡ true → IsSpelledAt p text) → IsSpelledAt q text → IsSpelledAt (cond t p q) text
  either_piece true p q h k = h refl
  either_piece false p q h k = k

  spelled : (k : TokenKind) → is_operator k ≡ true → HasBytesAt text 0 (spelling k) → IsSpelledAt (token_piece k (length (spelling k))) text
  spelled k operator bytes = record { kind = k; operator = operator; piece = refl; bytes = bytes }

  pub operator_spelled : Sound text (operator_of (get_or text 0 0) (get_or text 1 0) (get_or text 2 0))
  unfolding spelling is_keyword is_spelled operator_of same_kind
  operator_spelled =
      let b = get_or text 0 0 in
      let c = get_or text 1 0 in
      let d = get_or text 2 0 in
      either (b == 43) _ _ (λ h. either_piece (c == 43) _ _ (λ h2. spelled Increment refl (is_eq _ _ h, (is_eq _ _ h2, tt))) (either_piece (c == 61) _ _ (λ h2. spelled PlusAssign refl (is_eq _ _ h, (is_eq _ _ h2, tt))) (spelled Plus refl (is_eq _ _ h, tt))))
      (either (b == 45) _ _ (λ h. either_piece (c == 45) _ _ (λ h2. spelled Decrement refl (is_eq _ _ h, (is_eq _ _ h2, tt))) (either_piece (c == 61) _ _ (λ h2. spelled MinusAssign refl (is_eq _ _ h, (is_eq _ _ h2, tt))) (spelled Minus refl (is_eq _ _ h, tt))))
      (either (b == 42) _ _ (λ h. either_piece (c == 61) _ _ (λ h2. spelled StarAssign refl (is_eq _ _ h, (is_eq _ _ h2, tt))) (spelled Star refl (is_eq _ _ h, tt)))
      (either (b == 47) _ _ (λ h. either_piece (c == 61) _ _ (λ h2. spelled SlashAssign refl (is_eq _ _ h, (is_eq _ _ h2, tt))) (spelled Slash refl (is_eq _ _ h, tt)))
      (either (b == 37) _ _ (λ h. either_piece (c == 61) _ _ (λ h2. spelled PercentAssign refl (is_eq _ _ h, (is_eq _ _ h2, tt))) (spelled Percent refl (is_eq _ _ h, tt)))
      (either (b == 38) _ _ (λ h. either_piece (c == 94) _ _ (λ h1. either_piece (d == 61) _ _ (λ h3. spelled AndNotAssign refl (is_eq _ _ h, (is_eq _ _ h1, (is_eq _ _ h3, tt)))) (spelled AndNot refl (is_eq _ _ h, (is_eq _ _ h1, tt)))) (either_piece (c == 38) _ _ (λ h2. spelled LogicalAnd refl (is_eq _ _ h, (is_eq _ _ h2, tt))) (either_piece (c == 61) _ _ (λ h2. spelled AmpersandAssign refl (is_eq _ _ h, (is_eq _ _ h2, tt))) (spelled Ampersand refl (is_eq _ _ h, tt)))))
      (either (b == 124) _ _ (λ h. either_piece (c == 124) _ _ (λ h2. spelled LogicalOr refl (is_eq _ _ h, (is_eq _ _ h2, tt))) (either_piece (c == 61) _ _ (λ h2. spelled PipeAssign refl (is_eq _ _ h, (is_eq _ _ h2, tt))) (spelled Pipe refl (is_eq _ _ h, tt))))
      (either (b == 94) _ _ (λ h. either_piece (c == 61) _ _ (λ h2. spelled CaretAssign refl (is_eq _ _ h, (is_eq _ _ h2, tt))) (spelled Caret refl (is_eq _ _ h, tt)))
      (either (b == 60) _ _ (λ h. either_piece (c == 60) _ _ (λ h1. either_piece (d == 61) _ _ (λ h3. spelled ShiftLeftAssign refl (is_eq _ _ h, (is_eq _ _ h1, (is_eq _ _ h3, tt)))) (spelled ShiftLeft refl (is_eq _ _ h, (is_eq _ _ h1, tt)))) (either_piece (c == 45) _ _ (λ h2. spelled Arrow refl (is_eq _ _ h, (is_eq _ _ h2, tt))) (either_piece (c == 61) _ _ (λ h2. spelled LessOrEqual refl (is_eq _ _ h, (is_eq _ _ h2, tt))) (spelled LessThan refl (is_eq _ _ h, tt)))))
      (either (b == 62) _ _ (λ h. either_piece (c == 62) _ _ (λ h1. either_piece (d == 61) _ _ (λ h3. spelled ShiftRightAssign refl (is_eq _ _ h, (is_eq _ _ h1, (is_eq _ _ h3, tt)))) (spelled ShiftRight refl (is_eq _ _ h, (is_eq _ _ h1, tt)))) (either_piece (c == 61) _ _ (λ h2. spelled GreaterOrEqual refl (is_eq _ _ h, (is_eq _ _ h2, tt))) (spelled GreaterThan refl (is_eq _ _ h, tt))))
      (either (b == 61) _ _ (λ h. either_piece (c == 61) _ _ (λ h2. spelled EqualEqual refl (is_eq _ _ h, (is_eq _ _ h2, tt))) (spelled Assign refl (is_eq _ _ h, tt)))
      (either (b == 33) _ _ (λ h. either_piece (c == 61) _ _ (λ h2. spelled NotEqual refl (is_eq _ _ h, (is_eq _ _ h2, tt))) (spelled Bang refl (is_eq _ _ h, tt)))
      (either (b == 58) _ _ (λ h. either_piece (c == 61) _ _ (λ h2. spelled Define refl (is_eq _ _ h, (is_eq _ _ h2, tt))) (spelled Colon refl (is_eq _ _ h, tt)))
      (either (b == 46) _ _ (λ h. either_piece (c == 46 && d == 46) _ _ (λ h2. let dots = and_parts _ _ h2 in spelled Ellipsis refl (is_eq _ _ h, (is_eq _ _ dots.0, (is_eq _ _ dots.1, tt)))) (spelled Dot refl (is_eq _ _ h, tt)))
      (either (b == 126) _ _ (λ h. spelled Tilde refl (is_eq _ _ h, tt))
      (either (b == 40) _ _ (λ h. spelled LeftParenthesis refl (is_eq _ _ h, tt))
      (either (b == 41) _ _ (λ h. spelled RightParenthesis refl (is_eq _ _ h, tt))
      (either (b == 91) _ _ (λ h. spelled LeftBracket refl (is_eq _ _ h, tt))
      (either (b == 93) _ _ (λ h. spelled RightBracket refl (is_eq _ _ h, tt))
      (either (b == 123) _ _ (λ h. spelled LeftBrace refl (is_eq _ _ h, tt))
      (either (b == 125) _ _ (λ h. spelled RightBrace refl (is_eq _ _ h, tt))
      (either (b == 44) _ _ (λ h. spelled Comma refl (is_eq _ _ h, tt))
      (either (b == 59) _ _ (λ h. spelled Semicolon refl (is_eq _ _ h, tt)) tt))))))))))))))))))))))

-- a text that begins with the bytes of a spelling begins with it
shift : (b : ℕ) (bs : List ℕ) (i : ℕ) (p : List ℕ) → HasBytesAt (b ∷ bs) (suc i) p → HasBytesAt bs i p
shift b bs i [] h = tt
shift b bs i (c ∷ p) h = (h.0, shift b bs (suc i) p h.1)

prefix_step : (b c : ℕ) (p text : List ℕ) → b ≡ c → take (length p) text ≡ p → length p ≤ length text → (take (length (c ∷ p)) (b ∷ text) ≡ c ∷ p) × (length (c ∷ p) ≤ length (b ∷ text))
prefix_step b c p text first rest size = (cc, omega arith)

prefix_none : (c : ℕ) → ltb 0 c ≡ true → 0 ≡ c → ⊥
prefix_none c h e = let positive = ltb_lt 0 c h in absurd (omega arith)

pub prefix : (p text : List ℕ) → are_nonzero p ≡ true → HasBytesAt text 0 p → (take (length p) text ≡ p) × (length p ≤ length text)
prefix [] text nonzero h = (refl, omega arith)
prefix (c ∷ p) [] nonzero h = absurd (prefix_none c (and_parts _ _ nonzero).0 h.0)
prefix (c ∷ p) (b ∷ text) nonzero h =
    let r = prefix p text (and_parts _ _ nonzero).1 (shift b text 0 p h.1) in
    prefix_step b c p text h.0 r.0 r.1

-- the keyword that is found is spelled so
abbrev pub KeywordOr : List ℕ → TokenKind → Type 0
KeywordOr word k = (k ≡ Identifier) ⊎ ((is_keyword k ≡ true) × (word ≡ spelling k))

-- each row of the table spells a keyword
all_spelled : List (List ℕ × TokenKind) → Bool
all_spelled [] = true
all_spelled (row ∷ rows) = (is_keyword row.1 && bytes_eq row.0 (spelling row.1)) && all_spelled rows

keywords_spelled : all_spelled keywords ≡ true
unfolding spelling is_keyword same_kind all_spelled
keywords_spelled = refl

spelled_in : (rows : List (List ℕ × TokenKind)) (word : List ℕ) → all_spelled rows ≡ true → KeywordOr word (kind_in rows word)
unfolding all_spelled
spelled_in [] word h = inl refl
spelled_in (row ∷ rows) word h =
    let p = and_parts (is_keyword row.1 && bytes_eq row.0 (spelling row.1)) (all_spelled rows) h in
    let q = and_parts (is_keyword row.1) (bytes_eq row.0 (spelling row.1)) p.0 in
    cond_both (bytes_eq row.0 word) row.1 (kind_in rows word) (KeywordOr word)
    (λ same. inr (q.0, sym ((bytes_eq-Decides row.0 word).0 same) ∙ (bytes_eq-Decides row.0 (spelling row.1)).0 q.1))
    (λ _. spelled_in rows word p.1)

pub keyword_spelled : (word : List ℕ) → KeywordOr word (keyword_of word)
unfolding keyword_of
keyword_spelled word = spelled_in keywords word keywords_spelled

-- a word that no keyword is found for is none
pub no_keyword : (word : List ℕ) → keyword_of word ≡ Identifier → (k : TokenKind) → is_keyword k ≡ true → word ≡ spelling k → ⊥
unfolding is_keyword same_kind
no_keyword word found k keyword same =
    let e : keyword_of (spelling k) ≡ k = subst (λ t. cond t (keyword_of (spelling k)) k ≡ k) keyword (keyword_found k) in
    let is_name : k ≡ Identifier = sym e ∙ (ap keyword_of (sym same) ∙ found) in
    false≢true (subst (λ j. is_keyword j ≡ true) is_name keyword)

-- The bytes of a piece determine what it is.
use Rattle.std.proofs.Common.{◌≡◌, ◌==◌, ℕ, ◌<◌, ◌≤◌, Bool, true, false, not, cond, ◌&&◌, ◌||◌, List, [], ◌∷◌, ◌++◌, length, get_or, Option, Some, None, refl, sym, ap, ◌∙◌, subst, ltb, leb, arith, inl, inr, ⊎_elim}
use Rattle.std.specs.Prelude.{◌⊎◌}
use Rattle.std.specs.Char.{encode_utf8, is_ascii_digit}
use Rattle.std.specs.Str.{encode_utf8_all}
use Rattle.std.proofs.lemmas.Bool.{false≢true, and_parts, or_right, or_left, or_cases, and_left, cond-true, cond-false, agree_below, agree_below_at, cases_lt, eqb-true, le-leb, ltb-true}
use Rattle.std.proofs.lemmas.Bool.Decides.{nat_tests}
use Rattle.std.proofs.lemmas.List.{length-append}
use Rattle.std.proofs.lemmas.Str.{char_from_byte, length-encode, len_utf8_bounds}
use Rattle.lexer.specs.declared.token.TokenKind.{TokenKind}
use Rattle.lexer.specs.declared.token.TokenKind.TheVariants.{Identifier, Number, InterpretedString, RawString, Rune}
use Rattle.lexer.specs.declared.pieces.PieceKind.{PieceKind}
use Rattle.lexer.specs.declared.pieces.PieceKind.TheVariants.{WhiteSpace, Newline, LineComment, GeneralComment, GeneralCommentWithNewline, TokenOf}
use Rattle.lexer.specs.declared.pieces.Piece.{Piece}
use Rattle.lexer.specs.Letters.{is_ascii_letter}
use Rattle.lexer.specs.Spelling.{same_kind, spelling, is_keyword}
use Rattle.lexer.specs.Dispatch.{keyword_of, operator_of, quote_kind}
use Rattle.lexer.specs.Pieces.{is_white_space, IsWord, IsNumber, has_newline, IsToken, Reads}
use Rattle.lexer.specs.Cut.{opens_comment}
use Rattle.lexer.proofs.AsciiLetters.{letter_ascii}
use Rattle.lexer.proofs.Spelled.{is_spelled, Group, Words, Numbers, Spaces, Quotes, Operators, group_of, kind_group, spelled_group, keyword_spelled, spelling_size}

unfoldable pub piece_group : PieceKind → Group
piece_group (TokenOf k) = kind_group k
piece_group WhiteSpace = Spaces
piece_group Newline = Spaces
piece_group _ = Operators

-- a fact on ASCII bytes, by looking at each
below_128 : (test : ℕ → Bool) → agree_below test (λ _. true) 128 ≡ true → (b : ℕ) → b < 128 → test b ≡ true
below_128 test h b small = agree_below_at test (λ _. true) 128 b h small

implied : (x y : Bool) → (not x || y) ≡ true → x ≡ true → y ≡ true
implied true y h e = h
implied false y h e = absurd (false≢true e)

digit_small : (b : ℕ) → is_ascii_digit b ≡ true → b < 128
digit_small b h = grind (arith, nat_tests)

pub letter_group : (b : ℕ) → is_ascii_letter b ≡ true → group_of b ≡ Words
unfolding group_of
letter_group b h = cond-true _ _ _ (or_right _ _ h)

pub high_group : (b : ℕ) → 128 ≤ b → group_of b ≡ Words
unfolding group_of
high_group b h = cond-true _ _ _ (or_left _ _ (le-leb 128 b h))

pub digit_group : (b : ℕ) → is_ascii_digit b ≡ true → group_of b ≡ Numbers
unfolding group_of
digit_group b h =
    let small = digit_small b h in
    let no_word : (leb 128 b || is_ascii_letter b) ≡ false = grind (arith, nat_tests) in
    cond-false _ _ _ no_word ∙ cond-true _ _ _ h

pub space_is : (b : ℕ) → is_white_space b ≡ true → ((b ≡ 32) ⊎ (b ≡ 9)) ⊎ (b ≡ 13)
space_is b h =
    ⊎_elim (λ x. inl (⊎_elim (λ y. inl (eqb-true _ _ y)) (λ y. inr (eqb-true _ _ y)) (or_cases _ _ x))) (λ x. inr (eqb-true _ _ x)) (or_cases _ _ h)

pub space_group : (b : ℕ) → is_white_space b ≡ true → group_of b ≡ Spaces
unfolding group_of
space_group b h =
    let P : ℕ → Type 0 = λ n. group_of n ≡ Spaces in
    ⊎_elim (λ x. ⊎_elim (λ e. subst P (sym e) refl) (λ e. subst P (sym e) refl) x) (λ e. subst P (sym e) refl) (space_is b h)

group_at : (b n : ℕ) (g : Group) → b ≡ n → group_of n ≡ g → group_of b ≡ g
group_at b n g e h = ap group_of e ∙ h

-- a word begins with a letter, or with a byte past ASCII
pub word_group : (bytes : List ℕ) → IsWord bytes → group_of (get_or bytes 0 0) ≡ Words
word_group bytes w =
    let b = get_or bytes 0 0 in
    ⊎_elim
    (λ small.
    let e : bytes ≡ encode_utf8 w.first ++ encode_utf8_all w.others = sym w.encoded in
    let size : 0 < length bytes = omega (arith, ap length e, length-append (encode_utf8 w.first) (encode_utf8_all w.others), length-encode w.first, (len_utf8_bounds w.first).0) in
    let same : w.first ≡ b = char_from_byte bytes (encode_utf8_all w.others) w.first e small size in
    let ascii : w.first < 128 = omega arith in
    let letter : is_ascii_letter w.first ≡ true = sym (letter_ascii w.first ascii) ∙ w.begins in
    letter_group b (subst (λ n. is_ascii_letter n ≡ true) same letter))
    (λ high. high_group b high)
    (cases_lt b 128)

-- what may begin with a piece's first byte; a number may begin with a dot
abbrev pub IsDotNumber : PieceKind → List ℕ → Type 0
IsDotNumber s bytes = (s ≡ TokenOf Number) × (get_or bytes 0 0 ≡ 46) × (is_ascii_digit (get_or bytes 1 0) ≡ true)

abbrev pub Grouped : PieceKind → List ℕ → Type 0
Grouped s bytes = (group_of (get_or bytes 0 0) ≡ piece_group s) ⊎ IsDotNumber s bytes

grouped_token : (k : TokenKind) (bytes : List ℕ) → IsToken k bytes → Grouped (TokenOf k) bytes
unfolding IsToken piece_group kind_group is_spelled group_of
grouped_token Identifier bytes h = inl (word_group bytes h.0)
grouped_token Number bytes h =
    ⊎_elim (λ d. inl (digit_group (get_or bytes 0 0) d)) (λ d. let p = and_parts _ _ d in inr (refl, eqb-true _ _ p.0, p.1)) (or_cases _ _ h.begins)
grouped_token InterpretedString bytes h = inl (group_at _ 34 Quotes (ap (λ l. get_or l 0 0) h.opens) refl)
grouped_token RawString bytes h = inl (group_at _ 96 Quotes (ap (λ l. get_or l 0 0) h.opens) refl)
grouped_token Rune bytes h = inl (group_at _ 39 Quotes (ap (λ l. get_or l 0 0) h.opens) refl)
grouped_token k bytes h = inl (ap (λ l. group_of (get_or l 0 0)) h ∙ spelled_group k)

pub grouped : (s : PieceKind) (bytes : List ℕ) → Reads s bytes → Grouped s bytes
unfolding Reads piece_group group_of
grouped WhiteSpace bytes h = inl (group_at _ h.0 Spaces (ap (λ l. get_or l 0 0) h.1) (space_group h.0 h.2))
grouped Newline bytes h = inl (group_at _ 10 Spaces (ap (λ l. get_or l 0 0) h) refl)
grouped LineComment bytes h = inl (group_at _ 47 Operators (ap (λ l. get_or l 0 0) h.opens) refl)
grouped GeneralComment bytes h = inl (group_at _ 47 Operators (ap (λ l. get_or l 0 0) h.0.opens) refl)
grouped GeneralCommentWithNewline bytes h = inl (group_at _ 47 Operators (ap (λ l. get_or l 0 0) h.0.opens) refl)
grouped (TokenOf k) bytes h = grouped_token k bytes h

-- what a piece is, by its bytes
found_kind : Option Piece → PieceKind
found_kind None = WhiteSpace
found_kind (Some p) = p.kind

comment_kind : List ℕ → PieceKind
comment_kind bytes =
    cond (get_or bytes 1 0 == 47) LineComment (cond (has_newline bytes) GeneralCommentWithNewline GeneralComment)

operator_kind : List ℕ → PieceKind
operator_kind bytes =
    cond (get_or bytes 0 0 == 46 && is_ascii_digit (get_or bytes 1 0)) (TokenOf Number) (found_kind (operator_of (get_or bytes 0 0) (get_or bytes 1 0) (get_or bytes 2 0)))

kind_in : Group → List ℕ → PieceKind
kind_in Words bytes = TokenOf (keyword_of bytes)
kind_in Numbers bytes = TokenOf Number
kind_in Spaces bytes = cond (get_or bytes 0 0 == 10) Newline WhiteSpace
kind_in Quotes bytes = TokenOf (quote_kind (get_or bytes 0 0))
kind_in Operators bytes = cond (opens_comment bytes) (comment_kind bytes) (operator_kind bytes)

kind_of : List ℕ → PieceKind
kind_of bytes = kind_in (group_of (get_or bytes 0 0)) bytes

spelled_kind : (k : TokenKind) → cond (is_spelled k) (kind_of (spelling k)) (TokenOf k) ≡ TokenOf k
unfolding kind_of kind_in comment_kind operator_kind found_kind group_of spelling is_spelled keyword_of operator_of same_kind
spelled_kind Identifier = refl
spelled_kind k = refl

identifier_kind : (bytes : List ℕ) → IsWord bytes → ((k : TokenKind) → is_keyword k ≡ true → bytes ≡ spelling k → ⊥) → kind_of bytes ≡ TokenOf Identifier
unfolding kind_of kind_in
identifier_kind bytes word none =
    ap (λ g. kind_in g bytes) (word_group bytes word)
    ∙ ap (λ k. TokenOf k) (⊎_elim (λ e. e) (λ (h : (is_keyword (keyword_of bytes) ≡ true) × (bytes ≡ spelling (keyword_of bytes))). absurd (none _ h.0 h.1)) (keyword_spelled bytes))

number_kind : (bytes : List ℕ) → IsNumber bytes → kind_of bytes ≡ TokenOf Number
unfolding kind_of kind_in operator_kind group_of
number_kind bytes number =
    ⊎_elim
    (λ d. ap (λ g. kind_in g bytes) (digit_group (get_or bytes 0 0) d))
    (λ d.
    let p = and_parts _ _ d in
    let dot : get_or bytes 0 0 ≡ 46 = eqb-true _ _ p.0 in
    ap (λ g. kind_in g bytes) (group_at (get_or bytes 0 0) 46 Operators dot refl)
    ∙ (cond-false (opens_comment bytes) _ _ (and_left _ _ (ap (λ n. n == 47) dot)) ∙ cond-true _ _ _ d))
    (or_cases _ _ number.begins)

token_kind : (k : TokenKind) (bytes : List ℕ) → IsToken k bytes → kind_of bytes ≡ TokenOf k
unfolding IsToken kind_of kind_in group_of is_spelled
token_kind Identifier bytes h = identifier_kind bytes h.0 h.1
token_kind Number bytes h = number_kind bytes h
token_kind InterpretedString bytes h = ap kind_of h.opens
token_kind RawString bytes h = ap kind_of h.opens
token_kind Rune bytes h = ap kind_of h.opens
token_kind k bytes h = ap kind_of h ∙ spelled_kind k

kind_from : (s : PieceKind) (bytes : List ℕ) → Reads s bytes → kind_of bytes ≡ s
unfolding Reads kind_of kind_in group_of comment_kind
kind_from WhiteSpace bytes h =
    let P : ℕ → Type 0 = λ n. kind_of (n ∷ []) ≡ WhiteSpace in
    ap kind_of h.1 ∙ ⊎_elim (λ x. ⊎_elim (λ e. subst P (sym e) refl) (λ e. subst P (sym e) refl) x) (λ e. subst P (sym e) refl) (space_is h.0 h.2)
kind_from Newline bytes h = ap kind_of h
kind_from LineComment bytes h = ap kind_of h.opens
kind_from GeneralComment bytes h =
    ap kind_of h.0.opens ∙ cond-false _ _ _ (ap has_newline (sym h.0.opens) ∙ h.1)
kind_from GeneralCommentWithNewline bytes h =
    ap kind_of h.0.opens ∙ cond-true _ _ _ (ap has_newline (sym h.0.opens) ∙ h.1)
kind_from (TokenOf k) bytes h = token_kind k bytes h

-- the same bytes are no two pieces
pub one_kind : (s t : PieceKind) (bytes : List ℕ) → Reads s bytes → Reads t bytes → s ≡ t
one_kind s t bytes h g = sym (kind_from s bytes h) ∙ kind_from t bytes g

-- a piece has a byte
nonempty_spelling : (k : TokenKind) → is_spelled k ≡ true → [] ≡ spelling k → ⊥
nonempty_spelling k h e =
    let size : ltb 0 (length (spelling k)) ≡ true = subst (λ t. cond t (ltb 0 (length (spelling k))) true ≡ true) h (spelling_size k) in
    let positive : 0 < length (spelling k) = ltb-true _ _ size in
    let none : 0 ≡ length (spelling k) = ap length e in
    absurd (omega arith)

pub nonempty_word : IsWord [] → ⊥
nonempty_word w =
    absurd (omega (arith, ap length w.encoded, length-append (encode_utf8 w.first) (encode_utf8_all w.others), length-encode w.first, (len_utf8_bounds w.first).0))

nonempty_token : (k : TokenKind) → IsToken k [] → ⊥
unfolding IsToken is_spelled
nonempty_token Identifier h = nonempty_word h.0
nonempty_token Number h = false≢true h.begins
nonempty_token InterpretedString h = let e = h.opens in cc
nonempty_token RawString h = let e = h.opens in cc
nonempty_token Rune h = let e = h.opens in cc
nonempty_token k h = nonempty_spelling k refl h

pub nonempty : (s : PieceKind) → Reads s [] → ⊥
unfolding Reads
nonempty WhiteSpace h = let e = h.1 in cc
nonempty Newline h = let e = h in cc
nonempty LineComment h = let e = h.opens in cc
nonempty GeneralComment h = let e = h.0.opens in cc
nonempty GeneralCommentWithNewline h = let e = h.0.opens in cc
nonempty (TokenOf k) h = nonempty_token k h

-- What can begin a text, by its first byte; and how a piece of a known group reads.
use Rattle.std.proofs.Common.{◌≡◌, ℕ, zero, suc, ◌<◌, ◌≤◌, Bool, true, false, cond, ◌||◌, List, [], ◌∷◌, length, get_or, take, refl, sym, ap, ◌∙◌, subst, arith, inl, inr, ⊎_elim, length-take-le, get_or-take}
use Rattle.std.specs.Prelude.{◌⊎◌, IsTrue, All}
use Rattle.std.specs.Char.{is_ascii_digit}
use Rattle.std.specs.Str.{IsAscii}
use Rattle.std.proofs.lemmas.Bool.{false≢true, and_parts, or_left, cond-true, cases_lt}
use Rattle.std.proofs.lemmas.List.{get_or_past}
use Rattle.std.proofs.lemmas.Str.{encodes-IsAscii, encodes_same}
use Rattle.lexer.specs.declared.token.TokenKind.{TokenKind}
use Rattle.lexer.specs.declared.token.TokenKind.TheVariants.{Identifier, Number, InterpretedString, RawString, Rune}
use Rattle.lexer.specs.declared.pieces.PieceKind.{PieceKind}
use Rattle.lexer.specs.declared.pieces.PieceKind.TheVariants.{WhiteSpace, Newline, LineComment, GeneralComment, GeneralCommentWithNewline, TokenOf}
use Rattle.lexer.specs.declared.pieces.Piece.{Piece}
use Rattle.lexer.specs.Letters.{is_ascii_letter, is_ascii_letter_or_digit, is_letter, is_digit}
use Rattle.lexer.specs.Spelling.{spelling, is_keyword}
use Rattle.lexer.specs.Pieces.{IsWord, IsQuoted, goes_on, IsToken, Reads}
use Rattle.lexer.specs.Cut.{CanBegin, is_comment, opens_comment}
use Rattle.lexer.proofs.Spelled.{is_spelled, Group, Words, Numbers, Spaces, Quotes, Operators, group_of, kind_group, are_word, keyword_word}
use Rattle.lexer.proofs.AsciiLetters.{letter_ascii, digit_ascii}
use Rattle.lexer.proofs.PieceKinds.{piece_group, IsDotNumber, grouped}

-- the bytes of a piece at the start of a text
pub byte_in : (n : ℕ) (text : List ℕ) (i : ℕ) → i < n → get_or (take n text) i 0 ≡ get_or text i 0
byte_in n text i h = get_or-take n text i 0 h

pub taken : (n : ℕ) (text : List ℕ) → n ≤ length text → length (take n text) ≡ n
taken n text h = length-take-le n text h

no_digit : is_ascii_digit 0 ≡ false
no_digit = refl

abbrev pub GroupedAt : Piece → List ℕ → Type 0
GroupedAt q text =
    (group_of (get_or text 0 0) ≡ piece_group q.kind) ⊎ ((q.kind ≡ TokenOf Number) × (get_or text 0 0 ≡ 46) × (is_ascii_digit (get_or text 1 0) ≡ true))

pub grouped_at : (q : Piece) (text : List ℕ) → 0 < q.size → CanBegin q text → GroupedAt q text
grouped_at q text positive h =
    ⊎_elim
    (λ g. inl (ap group_of (sym (byte_in q.size text 0 positive)) ∙ g))
    (λ (d : IsDotNumber q.kind (take q.size text)).
    let first : get_or text 0 0 ≡ 46 = sym (byte_in q.size text 0 positive) ∙ d.1 in
    ⊎_elim
    (λ (long : 1 < q.size). inr (d.0, first, ap is_ascii_digit (sym (byte_in q.size text 1 long)) ∙ d.2))
    (λ (short : q.size ≤ 1).
    let past : get_or (take q.size text) 1 0 ≡ 0 = get_or_past (take q.size text) 1 0 (omega (arith, taken q.size text h.within)) in
    absurd (false≢true (ap is_ascii_digit (sym past) ∙ d.2)))
    (cases_lt 1 q.size))
    (grouped q.kind (take q.size text) h.reads)

-- the groups apart
pub cond_words : (t : Bool) → cond t Words Operators ≡ Words → t ≡ true
cond_words true h = refl
cond_words false h = absurd cc

cond_operators : (t : Bool) → cond t Words Operators ≡ Operators → t ≡ false
cond_operators true h = absurd cc
cond_operators false h = refl

cond_not : (t : Bool) (g : Group) → (Words ≡ g → ⊥) → (Operators ≡ g → ⊥) → cond t Words Operators ≡ g → ⊥
cond_not true g a b h = a h
cond_not false g a b h = b h

-- a piece of the group of numbers is one
kind_number : (k : TokenKind) → kind_group k ≡ Numbers → k ≡ Number
unfolding kind_group
kind_number Identifier h = absurd cc
kind_number Number h = refl
kind_number InterpretedString h = absurd cc
kind_number RawString h = absurd cc
kind_number Rune h = absurd cc
kind_number k h = absurd (cond_not (is_keyword k) Numbers (λ e. cc) (λ e. cc) h)

pub piece_number : (s : PieceKind) → piece_group s ≡ Numbers → s ≡ TokenOf Number
unfolding piece_group
piece_number WhiteSpace h = absurd cc
piece_number Newline h = absurd cc
piece_number LineComment h = absurd cc
piece_number GeneralComment h = absurd cc
piece_number GeneralCommentWithNewline h = absurd cc
piece_number (TokenOf k) h = ap (λ j. TokenOf j) (kind_number k h)

-- a piece of the group of quotes is in quotes
token_quoted : (k : TokenKind) (bytes : List ℕ) → kind_group k ≡ Quotes → IsToken k bytes → IsQuoted (get_or bytes 0 0) bytes
unfolding kind_group IsToken
token_quoted Identifier bytes g h = absurd cc
token_quoted Number bytes g h = absurd cc
token_quoted InterpretedString bytes g h = subst (λ n. IsQuoted n bytes) (sym (ap (λ l. get_or l 0 0) h.opens)) h
token_quoted RawString bytes g h = subst (λ n. IsQuoted n bytes) (sym (ap (λ l. get_or l 0 0) h.opens)) h
token_quoted Rune bytes g h = subst (λ n. IsQuoted n bytes) (sym (ap (λ l. get_or l 0 0) h.opens)) h
token_quoted k bytes g h = absurd (cond_not (is_keyword k) Quotes (λ e. cc) (λ e. cc) g)

pub piece_quoted : (s : PieceKind) (bytes : List ℕ) → piece_group s ≡ Quotes → Reads s bytes → IsQuoted (get_or bytes 0 0) bytes
unfolding piece_group Reads
piece_quoted WhiteSpace bytes g h = absurd cc
piece_quoted Newline bytes g h = absurd cc
piece_quoted LineComment bytes g h = absurd cc
piece_quoted GeneralComment bytes g h = absurd cc
piece_quoted GeneralCommentWithNewline bytes g h = absurd cc
piece_quoted (TokenOf k) bytes g h = token_quoted k bytes g h

-- a white space has one byte
kind_space : (k : TokenKind) → kind_group k ≡ Spaces → ⊥
unfolding kind_group
kind_space Identifier h = cc
kind_space Number h = cc
kind_space InterpretedString h = cc
kind_space RawString h = cc
kind_space Rune h = cc
kind_space k h = cond_not (is_keyword k) Spaces (λ e. cc) (λ e. cc) h

pub piece_space : (s : PieceKind) (bytes : List ℕ) → piece_group s ≡ Spaces → Reads s bytes → length bytes ≡ 1
unfolding piece_group Reads
piece_space WhiteSpace bytes g h = ap length h.1
piece_space Newline bytes g h = ap length h
piece_space LineComment bytes g h = absurd cc
piece_space GeneralComment bytes g h = absurd cc
piece_space GeneralCommentWithNewline bytes g h = absurd cc
piece_space (TokenOf k) bytes g h = absurd (kind_space k g)

-- a piece of the last group is a comment or an operator
pub record IsOperatorAt (s : PieceKind) (bytes : List ℕ) : Type 0 where
  pub kind : TokenKind
  pub piece : s ≡ TokenOf kind
  pub spelled : is_spelled kind ≡ true
  pub no_keyword : is_keyword kind ≡ false
  pub same : bytes ≡ spelling kind

abbrev pub IsCommentAt : PieceKind → List ℕ → Type 0
IsCommentAt s bytes = (is_comment s ≡ true) × (opens_comment bytes ≡ true)

token_operator : (k : TokenKind) (bytes : List ℕ) → kind_group k ≡ Operators → IsToken k bytes → IsOperatorAt (TokenOf k) bytes
unfolding kind_group IsToken is_spelled
token_operator Identifier bytes g h = absurd cc
token_operator Number bytes g h = absurd cc
token_operator InterpretedString bytes g h = absurd cc
token_operator RawString bytes g h = absurd cc
token_operator Rune bytes g h = absurd cc
token_operator k bytes g h = record { kind = k; piece = refl; spelled = refl; no_keyword = cond_operators (is_keyword k) g; same = h }

pub piece_operator : (s : PieceKind) (bytes : List ℕ) → piece_group s ≡ Operators → Reads s bytes → IsCommentAt s bytes ⊎ IsOperatorAt s bytes
unfolding piece_group Reads
piece_operator WhiteSpace bytes g h = absurd cc
piece_operator Newline bytes g h = absurd cc
piece_operator LineComment bytes g h = inl (refl, ap opens_comment h.opens)
piece_operator GeneralComment bytes g h = inl (refl, ap opens_comment h.0.opens)
piece_operator GeneralCommentWithNewline bytes g h = inl (refl, ap opens_comment h.0.opens)
piece_operator (TokenOf k) bytes g h = inr (token_operator k bytes g h)

-- the bytes of an ASCII piece of the group of words stand in words
pub are_word_at : (bytes : List ℕ) (i : ℕ) → are_word bytes ≡ true → i < length bytes → is_ascii_letter_or_digit (get_or bytes i 0) ≡ true
are_word_at [] i h l = absurd (omega arith)
are_word_at (b ∷ bytes) zero h l = (and_parts _ _ h).0
are_word_at (b ∷ bytes) (suc i) h l = are_word_at bytes i (and_parts _ _ h).1 (omega arith)

pub word_char : (c : ℕ) → c < 128 → (is_letter c || is_digit c) ≡ is_ascii_letter_or_digit c
word_char c h = ap (λ t. t || is_digit c) (letter_ascii c h) ∙ ap (λ t. is_ascii_letter c || t) (digit_ascii c h)

identifier_word_at : (first : ℕ) (others bytes : List ℕ) → bytes ≡ first ∷ others → IsAscii bytes → IsTrue (is_letter first) → All (λ c. IsTrue (is_letter c || is_digit c)) others → (i : ℕ) → i < length (first ∷ others) → is_ascii_letter_or_digit (get_or (first ∷ others) i 0) ≡ true
identifier_word_at first others bytes e ascii begins goes_on zero l =
    let small : first < 128 = subst (λ n. n < 128) (ap (λ t. get_or t 0 0) e) (ascii 0) in
    or_left _ _ (sym (letter_ascii first small) ∙ begins)
identifier_word_at first others bytes e ascii begins goes_on (suc i) l =
    let small : get_or others i 0 < 128 = subst (λ n. n < 128) (ap (λ t. get_or t (suc i) 0) e) (ascii (suc i)) in
    sym (word_char (get_or others i 0) small) ∙ goes_on i 0 (omega arith)

word_at : (bytes : List ℕ) → IsAscii bytes → IsWord bytes → (i : ℕ) → i < length bytes → is_ascii_letter_or_digit (get_or bytes i 0) ≡ true
word_at bytes ascii w i l =
    let e : w.first ∷ w.others ≡ bytes = encodes_same (w.first ∷ w.others) bytes (w.encoded ∙ sym (encodes-IsAscii bytes ascii)) in
    subst (λ t. is_ascii_letter_or_digit (get_or t i 0) ≡ true) e (identifier_word_at w.first w.others bytes (sym e) ascii w.begins w.goes_on i (omega (arith, ap length e)))

keyword_word_at : (k : TokenKind) (bytes : List ℕ) → is_keyword k ≡ true → bytes ≡ spelling k → (i : ℕ) → i < length bytes → is_ascii_letter_or_digit (get_or bytes i 0) ≡ true
keyword_word_at k bytes keyword e i l =
    let all : are_word (spelling k) ≡ true = sym (cond-true _ _ _ keyword) ∙ keyword_word k in
    are_word_at bytes i (ap are_word e ∙ all) l

token_word_at : (k : TokenKind) (bytes : List ℕ) → IsAscii bytes → kind_group k ≡ Words → IsToken k bytes → (i : ℕ) → i < length bytes → is_ascii_letter_or_digit (get_or bytes i 0) ≡ true
unfolding kind_group IsToken
token_word_at Identifier bytes ascii g h i l = word_at bytes ascii h.0 i l
token_word_at Number bytes ascii g h i l = absurd cc
token_word_at InterpretedString bytes ascii g h i l = absurd cc
token_word_at RawString bytes ascii g h i l = absurd cc
token_word_at Rune bytes ascii g h i l = absurd cc
token_word_at k bytes ascii g h i l = keyword_word_at k bytes (cond_words (is_keyword k) g) h i l

pub is_word_at : (s : PieceKind) (bytes : List ℕ) → IsAscii bytes → piece_group s ≡ Words → Reads s bytes → (i : ℕ) → i < length bytes → is_ascii_letter_or_digit (get_or bytes i 0) ≡ true
unfolding piece_group Reads
is_word_at WhiteSpace bytes ascii g h i l = absurd cc
is_word_at Newline bytes ascii g h i l = absurd cc
is_word_at LineComment bytes ascii g h i l = absurd cc
is_word_at GeneralComment bytes ascii g h i l = absurd cc
is_word_at GeneralCommentWithNewline bytes ascii g h i l = absurd cc
is_word_at (TokenOf k) bytes ascii g h i l = token_word_at k bytes ascii g h i l

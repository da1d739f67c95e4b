-- The longest piece at the start of any UTF-8 text.
use Rattle.std.proofs.Common.{◌≡◌, ◌==◌, ℕ, zero, suc, ◌<◌, ◌≤◌, Bool, true, false, not, List, [], ◌∷◌, length, get_or, take, Option, Some, None, refl, sym, ap, ◌∙◌, subst, arith, ⊎_elim}
use Rattle.std.specs.Prelude.{IfSome, IfNone, IsTrue, IsFalse}
use Rattle.std.specs.Char.{is_ascii_digit}
use Rattle.std.specs.Str.{IsUtf8, IsAscii, IsCharBoundary}
use Rattle.std.proofs.lemmas.Bool.{false_from_ne_true, false≢true, both_ways, and_parts, cond-true, cond-false, cases_lt, ltb-true}
use Rattle.std.proofs.lemmas.Bool.Decides.{nat_tests}
use Rattle.std.proofs.lemmas.List.{get_or_past}
use Rattle.lexer.specs.declared.token.TokenKind.{TokenKind}
use Rattle.lexer.specs.declared.token.TokenKind.TheVariants.{Identifier, Number, InterpretedString, RawString, Rune}
use Rattle.lexer.specs.declared.pieces.PieceKind.{PieceKind}
use Rattle.lexer.specs.declared.pieces.PieceKind.TheVariants.{WhiteSpace, Newline, LineComment, GeneralComment, GeneralCommentWithNewline, TokenOf}
use Rattle.lexer.specs.declared.pieces.Piece.{Piece}
use Rattle.lexer.specs.Letters.{is_ascii_letter, is_ascii_letter_or_digit}
use Rattle.lexer.specs.Spelling.{spelling, is_keyword}
use Rattle.lexer.specs.Dispatch.{token_piece, keyword_of, operator_of, is_quote}
use Rattle.lexer.specs.Pieces.{is_white_space, IsWord, IsLineComment, IsGeneralComment, starts_number, IsToken, Reads}
use Rattle.lexer.specs.Cut.{CanBegin, IsLongest, is_comment, opens_comment}
use Rattle.lexer.proofs.Spelled.{is_spelled, Group, Words, Operators, group_of, kind_group, spelled_group, are_word, keyword_word, keyword_letter, spelling_size, spelling_nonzero, prefix, IsSpelledAt, operator_spelled}
use Rattle.lexer.proofs.PieceKinds.{piece_group, high_group, word_group, nonempty_word}
use Rattle.lexer.proofs.Groups.{byte_in, grouped_at, are_word_at, cond_words}
use Rattle.lexer.proofs.Longest.{no_slash, bytes_word, reads_word}
use Rattle.lexer.proofs.Literals.{positive_size, opens_in, IsOperatorText, operator_some, operator_none}
use Rattle.lexer.proofs.CommentSizes.{comment_reads}
use Rattle.lexer.proofs.Bounds.{piece_boundary}

-- a keyword is a word
pub word_small : (b : ℕ) → is_ascii_letter_or_digit b ≡ true → b < 128
word_small b h = grind (arith, nat_tests)

keyword_ascii : (k : TokenKind) → is_keyword k ≡ true → IsAscii (spelling k)
keyword_ascii k h i =
    let all : are_word (spelling k) ≡ true = sym (cond-true _ _ _ h) ∙ keyword_word k in
    ⊎_elim (λ l. word_small (get_or (spelling k) i 0) (are_word_at (spelling k) i all l)) (λ past. subst (λ n. n < 128) (sym (get_or_past (spelling k) i 0 past)) (omega arith)) (cases_lt i (length (spelling k)))

spelled_positive : (k : TokenKind) → is_spelled k ≡ true → 0 < length (spelling k)
spelled_positive k h = ltb-true _ _ (sym (cond-true _ _ _ h) ∙ spelling_size k)

keyword_is_word : (k : TokenKind) → is_spelled k ≡ true → is_keyword k ≡ true → IsWord (spelling k)
keyword_is_word k spelled h =
    let all : are_word (spelling k) ≡ true = sym (cond-true _ _ _ h) ∙ keyword_word k in
    bytes_word (spelling k) (spelled_positive k spelled) (keyword_ascii k h) (sym (cond-true _ _ _ h) ∙ keyword_letter k) (λ i p l. are_word_at (spelling k) i all l)

token_words : (k : TokenKind) (bytes : List ℕ) → kind_group k ≡ Words → IsToken k bytes → IsWord bytes
unfolding kind_group IsToken is_spelled
token_words Identifier bytes g h = h.0
token_words Number bytes g h = absurd cc
token_words InterpretedString bytes g h = absurd cc
token_words RawString bytes g h = absurd cc
token_words Rune bytes g h = absurd cc
token_words k bytes g h = subst IsWord (sym h) (keyword_is_word k refl (cond_words (is_keyword k) g))

piece_words : (s : PieceKind) (bytes : List ℕ) → piece_group s ≡ Words → Reads s bytes → IsWord bytes
unfolding piece_group Reads
piece_words WhiteSpace bytes g h = absurd cc
piece_words Newline bytes g h = absurd cc
piece_words LineComment bytes g h = absurd cc
piece_words GeneralComment bytes g h = absurd cc
piece_words GeneralCommentWithNewline bytes g h = absurd cc
piece_words (TokenOf k) bytes g h = token_words k bytes g h

-- where a word's first byte stands, only words begin
only_words : (text : List ℕ) (q : Piece) → group_of (get_or text 0 0) ≡ Words → CanBegin q text → IsWord (take q.size text)
unfolding group_of
only_words text q group h =
    ⊎_elim
    (λ g. piece_words q.kind (take q.size text) (sym g ∙ group) h.reads)
    (λ (d : (q.kind ≡ TokenOf Number) × (get_or text 0 0 ≡ 46) × (is_ascii_digit (get_or text 1 0) ≡ true)).
    let e : Words ≡ Operators = sym group ∙ ap group_of d.1 in absurd cc)
    (grouped_at q text (positive_size q text h) h)

abbrev pub AtMost : List ℕ → ℕ → Type 0
AtMost text n = (m : ℕ) → m ≤ length text → IsWord (take m text) → m ≤ n

pub word_piece : (text : List ℕ) (n : ℕ) → IsUtf8 text → 0 < n → n ≤ length text → IsWord (take n text) → AtMost text n → IsLongest (token_piece (keyword_of (take n text)) n) text × IsCharBoundary text n
word_piece text n utf8 positive within word most =
    let group = ap group_of (sym (byte_in n text 0 positive)) ∙ word_group (take n text) word in
    let begins : CanBegin (token_piece (keyword_of (take n text)) n) text = record {
      within = within;
      reads = reads_word (take n text) word;
      only_comment = λ opens. absurd (no_slash text Words group (λ e. cc) opens);
    } in (
      record { begins = begins; longest = λ q h. most q.size h.within (only_words text q group h) },
      piece_boundary text (token_piece (keyword_of (take n text)) n) utf8 begins (λ e. absurd cc),
    )

pub no_word_from : (text : List ℕ) → AtMost text 0 → (n : ℕ) → n ≤ length text → IsWord (take n text) → ⊥
no_word_from text most n within word =
    let none = most n within word in
    let zero_n : n ≡ 0 = omega arith in
    nonempty_word (subst (λ m. IsWord (take m text)) zero_n word)

-- a text that begins with no word
pub one_ascii : (b : ℕ) → b < 128 → IsAscii (b ∷ [])
one_ascii b small zero = small
one_ascii b small (suc i) = omega arith

letter_word : (text : List ℕ) → 0 < length text → is_ascii_letter (get_or text 0 0) ≡ true → get_or text 0 0 < 128 → IsWord (take 1 text)
letter_word [] size letter small = absurd (omega arith)
letter_word (b ∷ rest) size letter small =
    bytes_word (b ∷ []) (omega arith) (one_ascii b small) letter (λ i p l. absurd (omega arith))

comment_opens : (text : List ℕ) (q : Piece) → CanBegin q text → is_comment q.kind ≡ true → opens_comment text ≡ true
comment_opens text q h c =
    opens_in q.size text h.within
    (⊎_elim (λ (l : IsLineComment (take q.size text)). ap opens_comment l.opens) (λ (b : IsGeneralComment (take q.size text)). ap opens_comment b.opens) (comment_reads q.kind (take q.size text) c h.reads))

kind_operator : (k : TokenKind) → is_spelled k ≡ true → is_keyword k ≡ false → kind_group k ≡ Operators
unfolding kind_group is_spelled
kind_operator Identifier s h = absurd (false≢true s)
kind_operator Number s h = absurd (false≢true s)
kind_operator InterpretedString s h = absurd (false≢true s)
kind_operator RawString s h = absurd (false≢true s)
kind_operator Rune s h = absurd (false≢true s)
kind_operator k s h = cond-false (is_keyword k) Words Operators h

not_false : (t : Bool) → not t ≡ true → t ≡ false
not_false true h = absurd (false≢true h)
not_false false h = refl

operator_group : (text : List ℕ) (p : Piece) → IsSpelledAt p text → group_of (get_or text 0 0) ≡ Operators
operator_group text p s =
    let parts = and_parts _ _ s.operator in
    let start = prefix (spelling s.kind) text (spelling_nonzero s.kind) s.bytes in
    let first : get_or text 0 0 ≡ get_or (spelling s.kind) 0 0 = sym (byte_in (length (spelling s.kind)) text 0 (spelled_positive s.kind parts.0)) ∙ ap (λ t. get_or t 0 0) start.0 in
    ap group_of first ∙ (sym (cond-true _ _ _ parts.0) ∙ spelled_group s.kind ∙ kind_operator s.kind parts.0 (not_false _ parts.1))

abbrev pub Good : List ℕ → Option Piece → Type 0
Good text r = IfSome r (λ p. IsLongest p text × IsCharBoundary text p.size) × IfNone r ((q : Piece) → CanBegin q text → ⊥)

-- a piece that is no comment ends where a character does
pub plain_bounded : (text : List ℕ) (p : Piece) → IsUtf8 text → IsLongest p text → is_comment p.kind ≡ false → IsLongest p text × IsCharBoundary text p.size
plain_bounded text p utf8 l plain =
    (l, piece_boundary text p utf8 l.begins (λ e. absurd (both_ways _ plain (ap is_comment e))))

pub plain_good : (text : List ℕ) (r : Option Piece) → IsUtf8 text → opens_comment text ≡ false → IfSome r (λ p. IsLongest p text × IsFalse (is_comment p.kind)) → IfNone r ((q : Piece) → CanBegin q text → IsTrue (is_comment q.kind)) → Good text r
plain_good text None utf8 closed some none = (tt, λ q h. both_ways _ closed (comment_opens text q h (none q h)))
plain_good text (Some p) utf8 closed some none = (plain_bounded text p utf8 some.0 some.1, tt)

pub comment_good : (text : List ℕ) (r : Option Piece) → IsUtf8 text → IfSome r (λ p. IsLongest p text) → IfNone r ((q : Piece) → CanBegin q text → ⊥) → IfSome r (λ p. p.kind ≡ LineComment → IsCharBoundary text p.size) → Good text r
comment_good text None utf8 some none line = (tt, none)
comment_good text (Some p) utf8 some none line = ((some, piece_boundary text p utf8 some.begins line), tt)

high_good : (text : List ℕ) → ((n : ℕ) → n ≤ length text → IsWord (take n text) → ⊥) → 128 ≤ get_or text 0 0 → (r : Option Piece) → IfSome r (λ p. IsSpelledAt p text) → Good text r
high_good text wordless high None s =
    (tt, λ q h. wordless q.size h.within (only_words text q (high_group (get_or text 0 0) high) h))
high_good text wordless high (Some p) s =
    let e : Words ≡ Operators = sym (high_group (get_or text 0 0) high) ∙ operator_group text p s in absurd cc

pub rest_good : (text : List ℕ) → 0 < length text → IsUtf8 text → ((n : ℕ) → n ≤ length text → IsWord (take n text) → ⊥) → starts_number (get_or text 0 0) (get_or text 1 0) ≡ false → is_white_space (get_or text 0 0) ≡ false → (get_or text 0 0 == 10) ≡ false → is_quote (get_or text 0 0) ≡ false → opens_comment text ≡ false → (r : Option Piece) → r ≡ operator_of (get_or text 0 0) (get_or text 1 0) (get_or text 2 0) → Good text r
rest_good text size utf8 wordless number space newline quote comment r e =
    ⊎_elim
    (λ small.
    let o : IsOperatorText text = record {
      small = small;
      no_letter = false_from_ne_true _ (λ letter. wordless 1 size (letter_word text size letter small));
      no_number = number;
      no_space = space;
      no_newline = newline;
      no_quote = quote;
      no_comment = comment;
    } in
    plain_good text r utf8 comment (operator_some text o r e) (operator_none text o r e))
    (λ high. high_good text wordless high r (subst (λ x. IfSome x (λ p. IsSpelledAt p text)) (sym e) (operator_spelled text)))
    (cases_lt (get_or text 0 0) 128)

pub no_slash_in : (text : List ℕ) (g : Group) → group_of (get_or text 0 0) ≡ g → (g ≡ Operators → ⊥) → opens_comment text ≡ false
no_slash_in text g e ne = false_from_ne_true _ (no_slash text g e ne)

-- The texts that a tree keeps of a text's tokens are UTF-8: the text is, and tokens begin and end where characters do.
use Rattle.std.proofs.Common.{◌≡◌, ◌==◌, ℕ, zero, suc, ◌+◌, ◌-◌, ◌<◌, ◌≤◌, Bool, true, false, cond, List, [], ◌∷◌, ◌++◌, length, get_or, take, drop, Option, Some, None, refl, sym, ap, ◌∙◌, subst, arith, ⊎_elim}
use Rattle.std.specs.Prelude.{All, slice_range}
use Rattle.std.specs.Str.{IsUtf8, IsCharBoundary, is_utf8}
use Rattle.std.proofs.lemmas.Bool.{false≢true, cases_Bool, cases_lt, or_from, eqb-true}
use Rattle.std.proofs.lemmas.List.{take_more, drop-drop}
use Rattle.std.proofs.lemmas.List.Elements.{All-nil, All-cons, All-append}
use Rattle.std.proofs.lemmas.List.Folds.{list_any-append}
use Rattle.std.proofs.lemmas.Str.{IsUtf8-nil, is_utf8-from_IsUtf8, IsUtf8-take, IsUtf8-drop, IsUtf8-between, IsCharBoundary-end, IsCharBoundary-after_ascii, IsCharBoundary-before_ascii}
use Rattle.lexer.specs.declared.token.Token.{Token}
use Rattle.lexer.specs.declared.token.TokenKind.{TokenKind}
use Rattle.lexer.specs.declared.token.TokenKind.TheVariants.{Identifier, InterpretedString, RawString, Semicolon}
use Rattle.lexer.specs.declared.pieces.PieceKind.{PieceKind}
use Rattle.lexer.specs.declared.pieces.PieceKind.TheVariants.{WhiteSpace, Newline, LineComment, GeneralComment, GeneralCommentWithNewline, TokenOf}
use Rattle.lexer.specs.declared.pieces.Piece.{Piece}
use Rattle.lexer.specs.Pieces.{IsLineComment, IsQuoted, closes, breaks, escapes, is_empty, IsToken, Reads}
use Rattle.lexer.specs.Cut.{CanBegin, IsLongest, Cut}
use Rattle.lexer.specs.Semicolons.{token, semicolon, tokens_at, due_after, tokens_from}
use Rattle.lexer.specs.Tokens.{mark_size, IsTokens}
use Rattle.lexer.proofs.Bounds.{piece_boundary}
use Rattle.lexer.proofs.Groups.{byte_in, taken}
use Rattle.lexer.proofs.Steps.{mark_boundary}
use Rattle.parser_base.specs.Words.{kept_text, HasWords}

-- a line comment, and one byte more that is no newline
longer_comment : (bytes : List ℕ) (b : ℕ) → (b == 10) ≡ false → IsLineComment bytes → IsLineComment (bytes ++ b ∷ [])
longer_comment bytes b e h =
    record {
      inner = h.inner ++ b ∷ [];
      opens = ap (λ l. l ++ b ∷ []) h.opens;
      one_line = list_any-append (λ x. x == 10) h.inner (b ∷ []) ∙ or_from _ _ h.one_line (or_from _ _ e refl);
    }

line_of : (bytes : List ℕ) → Reads LineComment bytes → IsLineComment bytes
unfolding Reads
line_of bytes h = h

of_line : (bytes : List ℕ) → IsLineComment bytes → Reads LineComment bytes
unfolding Reads
of_line bytes h = h

-- so the longest one ends at a newline or at the text's end
line_boundary : (text : List ℕ) (p : Piece) → IsLongest p text → p.kind ≡ LineComment → IsCharBoundary text p.size
line_boundary text p l line =
    let within = l.begins.within in
    let comment : IsLineComment (take p.size text) = line_of (take p.size text) (subst (λ (k : PieceKind). Reads k (take p.size text)) line l.begins.reads) in
    ⊎_elim
    (λ (inside : p.size < length text).
    ⊎_elim
    (λ (newline : (get_or text p.size 0 == 10) ≡ true).
    let byte : get_or text p.size 0 ≡ 10 = eqb-true _ _ newline in
    IsCharBoundary-before_ascii text p.size inside (omega arith))
    (λ (other : (get_or text p.size 0 == 10) ≡ false).
    let more : CanBegin (record { kind = LineComment; size = p.size + 1 }) text = record {
      within = omega arith;
      reads = of_line (take (p.size + 1) text) (subst IsLineComment (sym (take_more text p.size 0 inside)) (longer_comment (take p.size text) (get_or text p.size 0) other comment));
      only_comment = λ opens. refl;
    } in
    absurd (omega (arith, l.longest (record { kind = LineComment; size = p.size + 1 }) more)))
    (cases_Bool (get_or text p.size 0 == 10)))
    (λ (past : length text ≤ p.size).
    let whole : length text ≡ p.size = omega arith in
    subst (IsCharBoundary text) whole (IsCharBoundary-end text))
    (cases_lt p.size (length text))

longest_boundary : (text : List ℕ) (p : Piece) → IsUtf8 text → IsLongest p text → IsCharBoundary text p.size
longest_boundary text p utf8 l = piece_boundary text p utf8 l.begins (line_boundary text p l)

-- what stands after an opening quote ends with the quote
record EndsAt (quote : ℕ) (bytes : List ℕ) : Type 0 where
  before : ℕ
  size : length bytes ≡ suc before
  last : get_or bytes before 0 ≡ quote

ends_more : (quote b : ℕ) (bs : List ℕ) → EndsAt quote bs → EndsAt quote (b ∷ bs)
ends_more quote b bs r = record { before = suc r.before; size = ap suc r.size; last = r.last }

ends_here : (quote b : ℕ) (bs : List ℕ) → b ≡ quote → is_empty bs ≡ true → EndsAt quote (b ∷ bs)
ends_here quote b [] same none = record { before = zero; size = refl; last = same }
ends_here quote b (c ∷ bs) same none = absurd (false≢true none)

either_of : (t y z : Bool) (P : Type 0) → (t ≡ true → y ≡ true → P) → (t ≡ false → z ≡ true → P) → cond t y z ≡ true → P
either_of true y z P f g h = f refl h
either_of false y z P f g h = g refl h

closes_ends : (quote : ℕ) (escaped : Bool) (bytes : List ℕ) → closes quote escaped bytes ≡ true → EndsAt quote bytes
unfolding closes
closes_ends quote escaped [] h = absurd (false≢true h)
closes_ends quote escaped (b ∷ bs) h =
    either_of (breaks quote b) false (cond escaped (closes quote false bs) (cond (b == quote) (is_empty bs) (closes quote (escapes quote b) bs))) (EndsAt quote (b ∷ bs))
    (λ _ no. absurd (false≢true no))
    (λ _ y. either_of escaped (closes quote false bs) (cond (b == quote) (is_empty bs) (closes quote (escapes quote b) bs)) (EndsAt quote (b ∷ bs))
    (λ _ e. ends_more quote b bs (closes_ends quote false bs e))
    (λ _ z. either_of (b == quote) (is_empty bs) (closes quote (escapes quote b) bs) (EndsAt quote (b ∷ bs))
    (λ same none. ends_here quote b bs (eqb-true b quote same) none)
    (λ _ e. ends_more quote b bs (closes_ends quote (escapes quote b) bs e))
    z)
    y)
    h

-- the text between quotes, where the text begins with them
between_quotes : (rest : List ℕ) (size quote : ℕ) → quote < 128 → IsUtf8 rest → size ≤ length rest → IsQuoted quote (take size rest) → IsUtf8 (take ((size - 1) - 1) (drop 1 rest))
between_quotes rest size quote small utf8 within h =
    let ends = closes_ends quote false h.inner h.closed in
    let long : length (take size rest) ≡ suc (suc ends.before) = ap length h.opens ∙ ap suc ends.size in
    let all : size ≡ suc (suc ends.before) = sym (taken size rest within) ∙ long in
    let first : get_or rest 0 0 ≡ quote = sym (byte_in size rest 0 (omega (arith, all))) ∙ ap (λ l. get_or l 0 0) h.opens in
    let last : get_or rest (suc ends.before) 0 ≡ quote = sym (byte_in size rest (suc ends.before) (omega (arith, all))) ∙ (ap (λ l. get_or l (suc ends.before) 0) h.opens ∙ ends.last) in
    let at : suc ends.before ≡ size - 1 = omega (arith, all) in
    let start : IsCharBoundary rest 1 = IsCharBoundary-after_ascii rest 0 utf8 (omega (arith, all, within)) (omega (arith, first, small)) in
    let stop : IsCharBoundary rest (size - 1) = subst (IsCharBoundary rest) at (IsCharBoundary-before_ascii rest (suc ends.before) (omega (arith, all, within)) (omega (arith, last, small))) in
    IsUtf8-between rest 1 (size - 1) utf8 (omega (arith, all)) start stop

drop_twice : (at n : ℕ) (xs : List ℕ) → drop n (drop at xs) ≡ drop (at + n) xs
drop_twice at n xs = drop-drop n at xs

abbrev Kept : List ℕ → Token → Type 0
Kept text t = is_utf8 (kept_text text t) ≡ true

-- a piece that begins at the offset `at`
module _ (text : List ℕ) (at size : ℕ) (utf8 : IsUtf8 (drop at text)) (within : size ≤ length (drop at text)) where
  name_kept : IsCharBoundary (drop at text) size → is_utf8 (slice_range text at (at + size)) ≡ true
  name_kept boundary =
      let same : size ≡ (at + size) - at = omega arith in
      is_utf8-from_IsUtf8 _ (subst (λ n. IsUtf8 (take n (drop at text))) same (IsUtf8-take (drop at text) size utf8 boundary))

  string_kept : (quote : ℕ) → quote < 128 → IsQuoted quote (take size (drop at text)) → is_utf8 (slice_range text (at + 1) ((at + size) - 1)) ≡ true
  string_kept quote small h =
      let same : (size - 1) - 1 ≡ ((at + size) - 1) - (at + 1) = omega arith in
      is_utf8-from_IsUtf8 _ (subst (λ n. IsUtf8 (take n (drop (at + 1) text))) same (subst (λ l. IsUtf8 (take ((size - 1) - 1) l)) (drop_twice at 1 text) (between_quotes (drop at text) size quote small utf8 within h)))

  token_kept : (k : TokenKind) → IsCharBoundary (drop at text) size → IsToken k (take size (drop at text)) → Kept text (token k at (at + size))
  unfolding IsToken
  token_kept Identifier boundary h = name_kept boundary
  token_kept InterpretedString boundary h = string_kept 34 (omega arith) h
  token_kept RawString boundary h = string_kept 96 (omega arith) h
  token_kept k boundary h = is_utf8-from_IsUtf8 [] IsUtf8-nil

semicolon_kept : (text : List ℕ) (due : Option ℕ) → All (Kept text) (semicolon due)
semicolon_kept text None = All-nil (Kept text)
semicolon_kept text (Some end) =
    All-cons (Kept text) (token Semicolon end end) [] (is_utf8-from_IsUtf8 [] IsUtf8-nil) (All-nil (Kept text))

added_kept : (text : List ℕ) (at size : ℕ) (s : PieceKind) (due : Option ℕ) → IsUtf8 (drop at text) → size ≤ length (drop at text) → IsCharBoundary (drop at text) size → Reads s (take size (drop at text)) → All (Kept text) (tokens_at s at (at + size) due)
unfolding Reads
added_kept text at size (TokenOf k) due utf8 within boundary h =
    All-cons (Kept text) (token k at (at + size)) [] (token_kept text at size utf8 within k boundary h) (All-nil (Kept text))
added_kept text at size Newline due utf8 within boundary h = semicolon_kept text due
added_kept text at size LineComment due utf8 within boundary h = semicolon_kept text due
added_kept text at size GeneralCommentWithNewline due utf8 within boundary h = semicolon_kept text due
added_kept text at size WhiteSpace due utf8 within boundary h = All-nil (Kept text)
added_kept text at size GeneralComment due utf8 within boundary h = All-nil (Kept text)

listed_kept : (text : List ℕ) (ps : List Piece) (at : ℕ) (due : Option ℕ) → IsUtf8 (drop at text) → Cut (drop at text) ps [] → All (Kept text) (tokens_from at due ps)
unfolding Cut tokens_from
listed_kept text [] at due utf8 c = semicolon_kept text due
listed_kept text (p ∷ ps) at due utf8 c =
    let boundary = longest_boundary (drop at text) p utf8 c.0 in
    let rest = drop_twice at p.size text in
    All-append (Kept text) (tokens_at p.kind at (at + p.size) due) (tokens_from (at + p.size) (due_after p.kind (at + p.size) due) ps)
    (added_kept text at p.size p.kind due utf8 c.0.begins.within boundary c.0.begins.reads)
    (listed_kept text ps (at + p.size) (due_after p.kind (at + p.size) due)
    (subst IsUtf8 rest (IsUtf8-drop (drop at text) p.size utf8 boundary))
    (subst (λ l. Cut l ps []) rest c.1))

pub tokens_have_words : (text : List ℕ) (tokens : List Token) → IsTokens text tokens → HasWords text tokens
tokens_have_words text tokens t =
    subst (λ l. All (Kept text) l) (sym t.listed) (listed_kept text t.pieces (mark_size text) None (IsUtf8-drop text (mark_size text) t.utf8 (mark_boundary text t.utf8)) t.cut)

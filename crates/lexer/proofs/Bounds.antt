-- Where a piece ends, a character does.
use Rattle.std.proofs.Common.{◌≡◌, ◌==◌, ℕ, zero, suc, ◌+◌, ◌-◌, ◌<◌, Bool, true, false, cond, ◌&&◌, ◌||◌, List, [], ◌∷◌, length, get_or, take, refl, sym, ap, ◌∙◌, subst, arith, inl, inr, ⊎_elim}
use Rattle.std.specs.Prelude.{◌⊎◌}
use Rattle.std.specs.Char.{is_ascii_digit}
use Rattle.std.specs.Str.{IsUtf8, IsCharBoundary}
use Rattle.std.proofs.lemmas.Bool.{false≢true, and_parts, or_cases, cond-true, cond-false, cases_Bool, eqb-true, ltb-true}
use Rattle.std.proofs.lemmas.Bool.Decides.{nat_tests}
use Rattle.lexer.specs.declared.token.TokenKind.{TokenKind}
use Rattle.lexer.specs.declared.token.TokenKind.TheVariants.{Identifier, Number, InterpretedString, RawString, Rune}
use Rattle.lexer.specs.declared.pieces.PieceKind.{PieceKind}
use Rattle.lexer.specs.declared.pieces.PieceKind.TheVariants.{WhiteSpace, Newline, LineComment, GeneralComment, GeneralCommentWithNewline, TokenOf}
use Rattle.lexer.specs.declared.pieces.Piece.{Piece}
use Rattle.lexer.specs.Letters.{is_ascii_letter_or_digit}
use Rattle.lexer.specs.Spelling.{spelling}
use Rattle.lexer.specs.Pieces.{is_white_space, IsWord, IsNumber, IsQuoted, IsGeneralComment, starts_number, is_hexadecimal, goes_on, closes, closes_comment, breaks, escapes, is_empty, IsToken, Reads}
use Rattle.lexer.specs.Cut.{CanBegin}
use Rattle.std.proofs.lemmas.Str.{IsCharBoundary-after_ascii}
use Rattle.lexer.proofs.Spelled.{last, spelling_last}
use Rattle.lexer.proofs.Groups.{byte_in, taken}
use Rattle.lexer.proofs.Literals.{positive_size}
use Rattle.lexer.proofs.Names.{word_boundary}

last_at : (bytes : List ℕ) (n : ℕ) → length bytes ≡ suc n → get_or bytes n 0 ≡ last bytes
last_at [] n h = absurd (omega arith)
last_at (b ∷ []) zero h = refl
last_at (b ∷ []) (suc n) h = absurd (omega arith)
last_at (b ∷ c ∷ bs) zero h = absurd (omega arith)
last_at (b ∷ c ∷ bs) (suc n) h = last_at (c ∷ bs) n (omega arith)

last_more : (b : ℕ) (bs : List ℕ) → 0 < length bs → last (b ∷ bs) ≡ last bs
last_more b [] h = absurd (omega arith)
last_more b (c ∷ bs) h = refl

empty_is : (bs : List ℕ) → is_empty bs ≡ true → bs ≡ []
empty_is [] h = refl
empty_is (b ∷ bs) h = absurd (false≢true h)

-- a general comment ends with a slash
comment_last : (bytes : List ℕ) → closes_comment bytes ≡ true → (last bytes ≡ 47) × (0 < length bytes)
unfolding closes_comment
comment_last [] h = absurd (false≢true h)
comment_last (b ∷ []) h = absurd (false≢true h)
comment_last (b ∷ c ∷ bs) h =
    ⊎_elim
    (λ t.
    let none = empty_is bs (sym (cond-true (b == 42 && c == 47) (is_empty bs) (closes_comment (c ∷ bs)) t) ∙ h) in
    (ap (λ l. last (c ∷ l)) none ∙ eqb-true _ _ (and_parts _ _ t).1, omega arith))
    (λ f. ((comment_last (c ∷ bs) (sym (cond-false (b == 42 && c == 47) (is_empty bs) (closes_comment (c ∷ bs)) f) ∙ h)).0, omega arith))
    (cases_Bool (b == 42 && c == 47))

-- a literal ends with its quote
end_of : (t : Bool) (y : Bool) (P : Type 0) → (t ≡ false → y ≡ true → P) → cond t false y ≡ true → P
end_of true y P f h = absurd (false≢true h)
end_of false y P f h = f refl h

either_of : (t y z : Bool) (P : Type 0) → (t ≡ true → y ≡ true → P) → (t ≡ false → z ≡ true → P) → cond t y z ≡ true → P
either_of true y z P f g h = f refl h
either_of false y z P f g h = g refl h

abbrev EndsWith : ℕ → List ℕ → Type 0
EndsWith quote bytes = (last bytes ≡ quote) × (0 < length bytes)

ends_more : (quote b : ℕ) (bs : List ℕ) → EndsWith quote bs → EndsWith quote (b ∷ bs)
ends_more quote b bs r = (last_more b bs r.1 ∙ r.0, omega arith)

ends_here : (quote b : ℕ) (bs : List ℕ) → b ≡ quote → bs ≡ [] → EndsWith quote (b ∷ bs)
ends_here quote b bs same none = (ap (λ l. last (b ∷ l)) none ∙ same, omega arith)

quote_last : (quote : ℕ) (escaped : Bool) (bytes : List ℕ) → closes quote escaped bytes ≡ true → EndsWith quote bytes
unfolding closes
quote_last quote escaped [] h = absurd (false≢true h)
quote_last quote escaped (b ∷ bs) h =
    end_of (breaks quote b) (cond escaped (closes quote false bs) (cond (b == quote) (is_empty bs) (closes quote (escapes quote b) bs))) (EndsWith quote (b ∷ bs))
    (λ _ y. either_of escaped (closes quote false bs) (cond (b == quote) (is_empty bs) (closes quote (escapes quote b) bs)) (EndsWith quote (b ∷ bs))
    (λ _ e. ends_more quote b bs (quote_last quote false bs e))
    (λ _ z. either_of (b == quote) (is_empty bs) (closes quote (escapes quote b) bs) (EndsWith quote (b ∷ bs))
    (λ same none. ends_here quote b bs (eqb-true b quote same) (empty_is bs none))
    (λ _ e. ends_more quote b bs (quote_last quote (escapes quote b) bs e))
    z)
    y)
    h

-- a number ends with an ASCII byte
goes_small : (hexadecimal : Bool) (previous b : ℕ) → goes_on hexadecimal previous b ≡ true → b < 128
goes_small hexadecimal previous b h =
    ⊎_elim
    (λ sign. ⊎_elim (λ e. let plus : b ≡ 43 = eqb-true _ _ e in omega arith) (λ e. let minus : b ≡ 45 = eqb-true _ _ e in omega arith) (or_cases _ _ sign))
    (λ none.
    ⊎_elim
    (λ (w : is_ascii_letter_or_digit b ≡ true). grind (arith, nat_tests))
    (λ e. let dot : b ≡ 46 = eqb-true _ _ e in omega arith)
    (or_cases _ _ (sym (cond-false _ _ _ none) ∙ h)))
    (cases_Bool (b == 43 || b == 45))

starts_small : (first second : ℕ) → starts_number first second ≡ true → first < 128
starts_small first second h =
    ⊎_elim (λ (d : is_ascii_digit first ≡ true). grind (arith, nat_tests)) (λ d. let dot : first ≡ 46 = eqb-true _ _ (and_parts _ _ d).0 in omega arith) (or_cases _ _ h)

number_last : (bytes : List ℕ) (n : ℕ) → length bytes ≡ suc n → IsNumber bytes → get_or bytes n 0 < 128
number_last bytes zero l h = starts_small (get_or bytes 0 0) (get_or bytes 1 0) h.begins
number_last bytes (suc n) l h = goes_small (is_hexadecimal bytes) (get_or bytes n 0) (get_or bytes (suc n) 0) (h.goes_on n (omega arith))

space_small : (b : ℕ) → is_white_space b ≡ true → b < 128
space_small b h = grind (arith, nat_tests)

-- what stands at a piece's end
abbrev pub EndsSmall : List ℕ → Type 0
EndsSmall bytes = (n : ℕ) → length bytes ≡ suc n → get_or bytes n 0 < 128

ends_with : (bytes : List ℕ) (b : ℕ) → last bytes ≡ b → b < 128 → EndsSmall bytes
ends_with bytes b e small n l = subst (λ x. x < 128) (sym (last_at bytes n l ∙ e)) small

quoted_small : (quote : ℕ) (bytes : List ℕ) → quote < 128 → IsQuoted quote bytes → EndsSmall bytes
quoted_small quote bytes small h =
    let r = quote_last quote false h.inner h.closed in
    ends_with bytes quote (ap last h.opens ∙ (last_more quote h.inner r.1 ∙ r.0)) small

comment_small : (bytes : List ℕ) → IsGeneralComment bytes → EndsSmall bytes
comment_small bytes h =
    let r = comment_last h.inner h.closed in
    ends_with bytes 47 (ap last h.opens ∙ (last_more 42 h.inner r.1 ∙ r.0)) (omega arith)

token_end : (k : TokenKind) (bytes : List ℕ) → IsToken k bytes → IsWord bytes ⊎ EndsSmall bytes
unfolding IsToken
token_end Identifier bytes h = inl h.0
token_end Number bytes h = inr (λ n l. number_last bytes n l h)
token_end InterpretedString bytes h = inr (quoted_small 34 bytes (omega arith) h)
token_end RawString bytes h = inr (quoted_small 96 bytes (omega arith) h)
token_end Rune bytes h = inr (quoted_small 39 bytes (omega arith) h)
token_end k bytes h = inr (ends_with bytes (last (spelling k)) (ap last h) (ltb-true _ _ (spelling_last k)))

piece_end : (s : PieceKind) (bytes : List ℕ) → Reads s bytes → (s ≡ LineComment) ⊎ (IsWord bytes ⊎ EndsSmall bytes)
unfolding Reads
piece_end WhiteSpace bytes h = inr (inr (ends_with bytes h.0 (ap last h.1) (space_small h.0 h.2)))
piece_end Newline bytes h = inr (inr (ends_with bytes 10 (ap last h) (omega arith)))
piece_end LineComment bytes h = inl refl
piece_end GeneralComment bytes h = inr (inr (comment_small bytes h.0))
piece_end GeneralCommentWithNewline bytes h = inr (inr (comment_small bytes h.0))
piece_end (TokenOf k) bytes h = inr (token_end k bytes h)

pub piece_boundary : (text : List ℕ) (p : Piece) → IsUtf8 text → CanBegin p text → (p.kind ≡ LineComment → IsCharBoundary text p.size) → IsCharBoundary text p.size
piece_boundary text p utf8 h line =
    let positive = positive_size p text h in
    let within = h.within in
    let next : (p.size - 1) + 1 ≡ p.size = omega arith in
    let suc_next : p.size ≡ suc (p.size - 1) = omega arith in
    ⊎_elim line
    (λ e. ⊎_elim
    (λ w. word_boundary text p.size utf8 within w)
    (λ (small : EndsSmall (take p.size text)).
    let here = small (p.size - 1) (taken p.size text within ∙ suc_next) in
    let byte : get_or text (p.size - 1) 0 < 128 = subst (λ b. b < 128) (byte_in p.size text (p.size - 1) (omega arith)) here in
    subst (IsCharBoundary text) next (IsCharBoundary-after_ascii text (p.size - 1) utf8 (omega arith) byte))
    e)
    (piece_end p.kind (take p.size text) h.reads)

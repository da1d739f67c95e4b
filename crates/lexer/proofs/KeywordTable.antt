-- A word is among the keywords just where it is among those of its first letter.
use Rattle.std.proofs.Common.{◌≡◌, ℕ, zero, suc, ◌+◌, ◌-◌, ◌<◌, ◌≤◌, Bool, true, false, ◌&&◌, List, [], ◌∷◌, length, map, take, drop, get_or, leb, Bor, refl, sym, ap, ◌∙◌, subst, arith, inl, inr, length-drop}
use Rattle.std.specs.Prelude.{⊤}
use Rattle.std.specs.Char.{is_ascii_lowercase}
use Rattle.std.specs.Str.{bytes_eq}
use Rattle.std.proofs.lemmas.Slice.Eq.{bytes_eq-Decides}
use Rattle.std.proofs.lemmas.Bool.{both_ways, and_parts, cases_lt, cond_both, leb-true, agree_below, agree_below_at}
use Rattle.std.proofs.lemmas.Bool.Decides.{nat_tests}
use Rattle.std.proofs.lemmas.List.{length-map, take-map, drop-map}
use Rattle.lexer.specs.declared.token.TokenKind.{TokenKind}
use Rattle.lexer.specs.declared.token.TokenKind.TheVariants.{Identifier}
use Rattle.lexer.specs.declared.keywords.TheConstants.{STARTS}
use Rattle.lexer.specs.Spelling.{keywords}
use Rattle.lexer.specs.Dispatch.{kind_in, keyword_of}

abbrev Each : (ℕ → Type 0) → ℕ → Type 0
Each P zero = ⊤
Each P (suc n) = P n × Each P n

each : (P : ℕ → Type 0) (n k : ℕ) → Each P n → k < n → P k
each P zero k h l = absurd (omega arith)
each P (suc n) k h l = elim (cases_lt k n) [ inl a ↦ each P n k h.1 a | inr a ↦ let e : n ≡ k = omega arith in subst P e h.0 ]

-- the rows of the letter number i
abbrev rows_of : ℕ → List (List ℕ × TokenKind)
rows_of i = take (get_or STARTS (i + 1) 0 - get_or STARTS i 0) (drop (get_or STARTS i 0) keywords)

abbrev SameRows : ℕ → Type 0
SameRows i = (w : List ℕ) → kind_in (rows_of i) ((97 + i) ∷ w) ≡ kind_in keywords ((97 + i) ∷ w)

same_rows : Each SameRows 26
same_rows =
    (λ w. refl, (λ w. refl, (λ w. refl, (λ w. refl, (λ w. refl, (λ w. refl, (λ w. refl, (λ w. refl, (λ w. refl, (λ w. refl, (λ w. refl, (λ w. refl, (λ w. refl, (λ w. refl, (λ w. refl, (λ w. refl, (λ w. refl, (λ w. refl, (λ w. refl, (λ w. refl, (λ w. refl, (λ w. refl, (λ w. refl, (λ w. refl, (λ w. refl, (λ w. refl, tt))))))))))))))))))))))))))

-- they stand in the table
abbrev are_rows : ℕ → Bool
are_rows i = leb (get_or STARTS i 0) (get_or STARTS (i + 1) 0) && leb (get_or STARTS (i + 1) 0) 25

rows_stand : agree_below are_rows (λ _. true) 26 ≡ true
rows_stand = refl

pub letter_rows : (i : ℕ) → i < 26 → (get_or STARTS i 0 ≤ get_or STARTS (i + 1) 0) × (get_or STARTS (i + 1) 0 ≤ 25)
letter_rows i l =
    let p = and_parts (leb (get_or STARTS i 0) (get_or STARTS (i + 1) 0)) (leb (get_or STARTS (i + 1) 0) 25) (agree_below_at are_rows (λ _. true) 26 i rows_stand l) in
    (leb-true _ _ p.0, leb-true _ _ p.1)

pub found_by_letter : (word : List ℕ) (i : ℕ) → i < 26 → 97 + i ≡ get_or word 0 0 → kind_in (rows_of i) word ≡ keyword_of word
unfolding keyword_of
found_by_letter [] i l e = absurd (omega arith)
found_by_letter (c ∷ w) i l e =
    subst (λ b. kind_in (rows_of i) (b ∷ w) ≡ kind_in keywords (b ∷ w)) e (each SameRows 26 i same_rows l w)

-- the rows that the code cuts out of its table
abbrev pub Row : Type 0
Row = Bor (List ℕ) × TokenKind

abbrev pub worded : List Row → List (List ℕ × TokenKind)
worded = map (λ row. (row.0.now, row.1))

pub table_size : (table : List Row) → worded table ≡ keywords → length table ≡ 25
table_size table e = sym (length-map table _) ∙ ap length e

pub letter_number : (c : ℕ) → is_ascii_lowercase c ≡ true → (c - 97 < 26) × (97 + (c - 97) ≡ c)
letter_number c h = let range : (97 ≤ c) × (c ≤ 122) = (grind (arith, nat_tests), grind (arith, nat_tests)) in (omega (arith, range.0, range.1), omega (arith, range.0))

pub begin_within : (a b n : ℕ) → a ≤ b → b ≤ 25 → n ≡ 25 → a ≤ n
begin_within a b n l m e = omega arith

pub end_within : (a b : ℕ) (table rest : List Row) → a ≤ b → b ≤ 25 → length table ≡ 25 → rest ≡ drop a table → b - a ≤ length rest
end_within a b table rest l m e back = omega (arith, ap length back, length-drop a table)

pub found_in_table : (word : List ℕ) (first : ℕ) (table rest rows : List Row) (a n : ℕ) → first ≡ get_or word 0 0 → is_ascii_lowercase first ≡ true → a ≡ get_or STARTS (first - 97) 0 → n ≡ get_or STARTS (first - 97 + 1) 0 - get_or STARTS (first - 97) 0 → worded table ≡ keywords → rest ≡ drop a table → rows ≡ take n rest → kind_in (worded rows) word ≡ keyword_of word
found_in_table word first table rest rows a n e h start size same back front =
    let f : Row → List ℕ × TokenKind = λ row. (row.0.now, row.1) in
    let at = letter_number first h in
    let begun : worded rest ≡ drop a keywords = ap worded back ∙ (sym (drop-map f a table) ∙ ap (drop a) same) in
    let cut : worded rows ≡ take n (drop a keywords) = ap worded front ∙ (sym (take-map f n rest) ∙ ap (take n) begun) in
    ap (λ l. kind_in l word) (cut ∙ (λ i. take (size i) (drop (start i) keywords))) ∙ found_by_letter word (first - 97) at.0 (at.1 ∙ e)

-- each keyword begins with a lower-case letter
begin_lowercase : List (List ℕ × TokenKind) → Bool
begin_lowercase [] = true
begin_lowercase (row ∷ rows) = is_ascii_lowercase (get_or row.0 0 0) && begin_lowercase rows

keywords_lowercase : begin_lowercase keywords ≡ true
unfolding begin_lowercase
keywords_lowercase = refl

none_in : (rows : List (List ℕ × TokenKind)) (word : List ℕ) → begin_lowercase rows ≡ true → is_ascii_lowercase (get_or word 0 0) ≡ false → kind_in rows word ≡ Identifier
unfolding begin_lowercase
none_in [] word h other = refl
none_in (row ∷ rows) word h other =
    let p = and_parts (is_ascii_lowercase (get_or row.0 0 0)) (begin_lowercase rows) h in
    cond_both (bytes_eq row.0 word) row.1 (kind_in rows word) (λ k. k ≡ Identifier)
    (λ same. absurd (both_ways _ other (subst (λ t. is_ascii_lowercase (get_or t 0 0) ≡ true) ((bytes_eq-Decides row.0 word).0 same) p.0)))
    (λ _. none_in rows word p.1 other)

pub none_by_letter : (word : List ℕ) → is_ascii_lowercase (get_or word 0 0) ≡ false → keyword_of word ≡ Identifier
unfolding keyword_of
none_by_letter word other = none_in keywords word keywords_lowercase other

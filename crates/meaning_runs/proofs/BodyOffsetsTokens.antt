-- The tokens of a text stand in order: each begins where the one before it ends, or behind, and each takes bytes but for
-- semicolons that are inserted.
use Rattle.std.proofs.Common.{◌≡◌, ℕ, ◌+◌, ◌<◌, ◌≤◌, inl, inr, Bool, true, false, List, [], ◌∷◌, ◌++◌, length, if◌then◌else◌, drop, Option, Some, None, Contains, refl, sym, subst, arith, true≢false}
use Rattle.std.specs.Prelude.{◌-◌}
use Rattle.std.proofs.lemmas.Bool.{and_parts}
use Rattle.std.proofs.lemmas.List.{length-drop}
use Rattle.std.proofs.lemmas.List.Elements.{Contains-append_cases}
use Rattle.lexer.specs.declared.token.Token.{Token}
use Rattle.lexer.specs.declared.token.TokenKind.{TokenKind}
use Rattle.lexer.specs.declared.token.TokenKind.TheVariants.{Semicolon}
use Rattle.lexer.specs.declared.pieces.PieceKind.{PieceKind}
use Rattle.lexer.specs.declared.pieces.PieceKind.TheVariants.{WhiteSpace, Newline, LineComment, GeneralComment, GeneralCommentWithNewline, TokenOf}
use Rattle.lexer.specs.declared.pieces.Piece.{Piece}
use Rattle.lexer.specs.Cut.{Cut}
use Rattle.lexer.specs.Semicolons.{ends_statement, token, semicolon, tokens_at, due_after, tokens_from}
use Rattle.lexer.specs.Tokens.{begins_with_mark, mark_size, IsTokens}
use Rattle.lexer.proofs.Literals.{positive_size}
use Rattle.meaning.specs.Cursor.{first_start}
use Rattle.meaning.proofs.Membership.{contains_nil, contains_cases}

-- a token of the kind takes bytes, which an inserted semicolon does not
abbrev pub is_solid : TokenKind → Bool
is_solid Semicolon = false
is_solid kind = true

-- the token begins at the offset or behind it
pub record Follows (lo : ℕ) (t : Token) : Type 0 where
  pub begins : lo ≤ t.start
  pub ends : t.start ≤ t.end
  pub takes : is_solid t.kind ≡ true → t.start < t.end

unfoldable pub Ordered : ℕ → List Token → Type 0
Ordered lo [] = Unit {0}
Ordered lo (t ∷ ts) = Follows lo t × Ordered t.end ts

pub first_ordered : (lo : ℕ) (t : Token) (ts : List Token) → Ordered lo (t ∷ ts) → Follows lo t × Ordered t.end ts
unfolding Ordered
first_ordered lo t ts h = h

one_and : (lo : ℕ) (t : Token) (ts : List Token) → Follows lo t → Ordered t.end ts → Ordered lo (t ∷ ts)
unfolding Ordered
one_and lo t ts h k = (h, k)

pub none_ordered : (lo : ℕ) → Ordered lo []
unfolding Ordered
none_ordered lo = tt

-- where the semicolon stands that is due
abbrev DueFits : ℕ → ℕ → Option ℕ → Type 0
DueFits lo at None = lo ≤ at
DueFits lo at (Some end) = (lo ≤ end) × (end ≤ at)

due_semicolon : (lo end : ℕ) → lo ≤ end → Follows lo (token Semicolon end end)
due_semicolon lo end h = record {
  begins = h;
  ends = omega arith;
  takes = λ e. absurd (true≢false (sym e));
}

semicolon_and : (lo at : ℕ) (due : Option ℕ) (ts : List Token) → DueFits lo at due → ((low : ℕ) → low ≤ at → Ordered low ts) → Ordered lo (semicolon due ++ ts)
semicolon_and lo at None ts h rest = rest lo h
semicolon_and lo at (Some end) ts h rest = one_and lo (token Semicolon end end) ts (due_semicolon lo end h.0) (rest end h.1)

wider_due : (lo at next : ℕ) (due : Option ℕ) → at ≤ next → DueFits lo at due → DueFits lo next due
wider_due lo at next None up h = omega (arith, h)
wider_due lo at next (Some end) up h = (h.0, omega (arith, h.1))

follows : (at size : ℕ) (lo : ℕ) (k : TokenKind) → lo ≤ at → 0 < size → Follows lo (token k at (at + size))
follows at size lo k low some = record { begins = low; ends = omega arith; takes = λ e. omega arith }

due_at : (lo at : ℕ) (b : Bool) → lo ≤ at → DueFits lo at (if b then Some at else None)
due_at lo at true h = (h, omega arith)
due_at lo at false h = h

due_low : (lo at : ℕ) (due : Option ℕ) → DueFits lo at due → lo ≤ at
due_low lo at None h = h
due_low lo at (Some end) h = omega (arith, h.0, h.1)

-- what a piece adds, and then what stands behind it
added : (s : PieceKind) (lo at size : ℕ) (due : Option ℕ) (ts : List Token)
    → DueFits lo at due
    → 0 < size
    → ((low : ℕ) → DueFits low (at + size) (due_after s (at + size) due) → Ordered low ts)
    → Ordered lo (tokens_at s at (at + size) due ++ ts)
added (TokenOf k) lo at size due ts h some rest =
    one_and lo (token k at (at + size)) ts (follows at size lo k (due_low lo at due h) some)
    (rest (at + size) (due_at (at + size) (at + size) (ends_statement k) (omega arith)))
added Newline lo at size due ts h some rest = semicolon_and lo at due ts h λ low l. rest low (omega (arith, l))
added LineComment lo at size due ts h some rest = semicolon_and lo at due ts h λ low l. rest low (omega (arith, l))
added GeneralCommentWithNewline lo at size due ts h some rest =
    semicolon_and lo at due ts h λ low l. rest low (omega (arith, l))
added WhiteSpace lo at size due ts h some rest = rest lo (wider_due lo at (at + size) due (omega arith) h)
added GeneralComment lo at size due ts h some rest = rest lo (wider_due lo at (at + size) due (omega arith) h)

last_semicolon : (lo at : ℕ) (due : Option ℕ) → DueFits lo at due → Ordered lo (semicolon due)
last_semicolon lo at None h = none_ordered lo
last_semicolon lo at (Some end) h = one_and lo (token Semicolon end end) [] (due_semicolon lo end h.0) (none_ordered end)

listed_ordered : (text : List ℕ) (ps : List Piece) (lo at : ℕ) (due : Option ℕ) → Cut text ps [] → DueFits lo at due → Ordered lo (tokens_from at due ps)
unfolding Cut tokens_from
listed_ordered text [] lo at due c h = last_semicolon lo at due h
listed_ordered text (p ∷ ps) lo at due c h =
    added p.kind lo at p.size due (tokens_from (at + p.size) (due_after p.kind (at + p.size) due) ps) h
    (positive_size p text c.0.begins)
    λ low k. listed_ordered (drop p.size text) ps low (at + p.size) (due_after p.kind (at + p.size) due) c.1 k

pub tokens_ordered : (text : List ℕ) (tokens : List Token) → IsTokens text tokens → Ordered 0 tokens
tokens_ordered text tokens t =
    subst (λ (l : List Token). Ordered 0 l) (sym t.listed) (listed_ordered (drop (mark_size text) text) t.pieces 0 (mark_size text) None t.cut (omega arith))

-- the tokens that are left stand where the first of them begins, or behind
pub from_first : (lo end : ℕ) (ts : List Token) → Ordered lo ts → Ordered (first_start end ts) ts
from_first lo end [] h = none_ordered end
from_first lo end (t ∷ ts) h =
    let k = first_ordered lo t ts h in
    one_and t.start t ts (record { begins = omega arith; ends = k.0.ends; takes = k.0.takes }) k.1

-- Tokens of a text end in it

abbrev pub AreUnder : ℕ → List Token → Type 0
AreUnder n ts = (t : Token) → Contains ts t → t.end ≤ n

under_both : (n : ℕ) (ts us : List Token) → AreUnder n ts → AreUnder n us → AreUnder n (ts ++ us)
under_both n ts us h k t among = elim (Contains-append_cases ts us t among) [ inl x ↦ h t x | inr x ↦ k t x ]

one_under : (n : ℕ) (t : Token) → t.end ≤ n → AreUnder n (t ∷ [])
one_under n t l k among = elim (contains_cases t k [] among) [
  | inl same ↦ subst (λ (x : Token). x.end ≤ n) same l
  | inr none ↦ absurd (contains_nil k none)
]

-- a semicolon that is due stands before the offset
abbrev IsDueUnder : ℕ → Option ℕ → Type 0
IsDueUnder n None = Unit {0}
IsDueUnder n (Some end) = end ≤ n

semicolon_under : (n : ℕ) (due : Option ℕ) → IsDueUnder n due → AreUnder n (semicolon due)
semicolon_under n None h = λ t none. absurd (contains_nil t none)
semicolon_under n (Some end) h = one_under n (token Semicolon end end) h

at_under : (s : PieceKind) (n start end : ℕ) (due : Option ℕ) → end ≤ n → IsDueUnder n due
    → AreUnder n (tokens_at s start end due) × IsDueUnder n (due_after s end due)
at_under (TokenOf k) n start end due l h = (one_under n (token k start end) l, by (ends_statement k))
  where
    by : (b : Bool) → IsDueUnder n (if b then Some end else None)
    by true = l
    by false = tt
at_under Newline n start end due l h = (semicolon_under n due h, tt)
at_under LineComment n start end due l h = (semicolon_under n due h, tt)
at_under GeneralCommentWithNewline n start end due l h = (semicolon_under n due h, tt)
at_under WhiteSpace n start end due l h = (λ t none. absurd (contains_nil t none), h)
at_under GeneralComment n start end due l h = (λ t none. absurd (contains_nil t none), h)

listed_under : (text : List ℕ) (ps : List Piece) (n at : ℕ) (due : Option ℕ) → Cut text ps []
    → at + length text ≤ n
    → IsDueUnder n due
    → AreUnder n (tokens_from at due ps)
unfolding Cut tokens_from
listed_under text [] n at due c l h = semicolon_under n due h
listed_under text (p ∷ ps) n at due c l h =
    let within : p.size ≤ length text = c.0.begins.within in
    let left : length (drop p.size text) ≡ length text - p.size = length-drop p.size text in
    let here = at_under p.kind n at (at + p.size) due (omega (arith, within, l)) h in
    under_both n (tokens_at p.kind at (at + p.size) due) (tokens_from (at + p.size) (due_after p.kind (at + p.size) due) ps)
    here.0 (listed_under (drop p.size text) ps n (at + p.size) (due_after p.kind (at + p.size) due) c.1
    (omega (arith, within, l, left)) here.1)

-- a byte order mark is in the text
three_there : (text : List ℕ) → begins_with_mark text ≡ true → 3 ≤ length text
three_there [] e = absurd (true≢false (sym e))
three_there (a ∷ []) e = absurd (true≢false (sym (and_parts _ _ (and_parts _ _ e).0).1))
three_there (a ∷ b ∷ []) e = absurd (true≢false (sym (and_parts _ _ e).1))
three_there (a ∷ b ∷ c ∷ text) e = omega arith

pub mark_there : (text : List ℕ) → mark_size text ≤ length text
mark_there text = by (begins_with_mark text) refl
  where
    by : (b : Bool) → begins_with_mark text ≡ b → (if b then 3 else 0) ≤ length text
    by true e = three_there text e
    by false e = omega arith

pub tokens_under : (text : List ℕ) (tokens : List Token) → IsTokens text tokens → AreUnder (length text) tokens
tokens_under text tokens t =
    let mark = mark_there text in
    let left : length (drop (mark_size text) text) ≡ length text - mark_size text = length-drop (mark_size text) text in
    subst (AreUnder (length text)) (sym t.listed) (listed_under (drop (mark_size text) text) t.pieces (length text)
    (mark_size text) None t.cut (omega (arith, mark, left)) tt)

-- Going through the tokens that come, with the number of brackets that stand open.
use Rattle.std.proofs.Common.{◌≡◌, ℕ, zero, suc, ◌+◌, ◌<◌, ◌≤◌, Bool, true, false, List, ◌∷◌, drop, length, get_or, refl, sym, ap, ◌∙◌, arith}
use Rattle.std.specs.Prelude.{◌||◌}
use Rattle.std.proofs.lemmas.List.{drop_more}
use Rattle.lexer.specs.declared.token.Token.{Token}
use Rattle.lexer.specs.declared.token.TokenKind.{TokenKind}
use Rattle.lexer.specs.declared.token.TokenKind.TheVariants.{Comma, Tilde, LeftParenthesis, RightParenthesis, LeftBracket, RightBracket, LeftBrace, RightBrace}
use Rattle.meaning.specs.Cursor.{first_is}
use Rattle.meaning.specs.TypeParameters.{nesting_behind, separates, closes, has_separator, only_begins_type, is_no_index, past_length, type_follows}
use Rattle.tree.proofs.Depths.{drop_past}
use Rattle.parser_base.specs.Ahead.{nesting_past}

-- inside brackets both numbers go on alike
past_behind : (k : TokenKind) (n : ℕ) → nesting_behind k n ≡ nesting_past k (suc n)
past_behind LeftParenthesis n = refl
past_behind LeftBracket n = refl
past_behind LeftBrace n = refl
past_behind RightParenthesis n = omega arith
past_behind RightBracket n = omega arith
past_behind RightBrace n = omega arith
past_behind _ n = refl

one_more : (n : ℕ) → n ≤ suc n
one_more n = omega arith

past_grows : (k : TokenKind) (n : ℕ) → nesting_past k n ≤ suc n
past_grows LeftParenthesis n = omega arith
past_grows LeftBracket n = omega arith
past_grows LeftBrace n = omega arith
past_grows RightParenthesis n = omega arith
past_grows RightBracket n = omega arith
past_grows RightBrace n = omega arith
past_grows _ n = one_more n

-- there are no more brackets than tokens
pub few_past : (k : TokenKind) (n at next : ℕ) → next ≡ nesting_past k n → n ≤ at → next ≤ at + 1
few_past k n at next is few = omega (arith, is, few, past_grows k n)

-- outside all brackets

separator_outside : (k : TokenKind) (t : Token) (rest : List Token) → t.kind ≡ k → separates k ≡ false → closes k ≡ false → has_separator 0 (t ∷ rest) ≡ has_separator (nesting_past k 0) rest
unfolding has_separator
separator_outside LeftParenthesis t rest e other opens = rw e refl
separator_outside LeftBracket t rest e other opens = rw e refl
separator_outside LeftBrace t rest e other opens = rw e refl
separator_outside RightParenthesis t rest e other opens = absurd cc
separator_outside RightBracket t rest e other opens = absurd cc
separator_outside RightBrace t rest e other opens = absurd cc
separator_outside Comma t rest e other opens = absurd cc
separator_outside Tilde t rest e other opens = absurd cc
separator_outside _ t rest e other opens = rw e refl

separator_inside : (n : ℕ) (t : Token) (rest : List Token) → has_separator (suc n) (t ∷ rest) ≡ has_separator (nesting_past t.kind (suc n)) rest
unfolding has_separator
separator_inside n t rest = ap (λ m. has_separator m rest) (past_behind t.kind n)

separator_more : (n : ℕ) (t : Token) (rest : List Token) → (n ≡ 0 → (separates t.kind ≡ false) × (closes t.kind ≡ false)) → has_separator n (t ∷ rest) ≡ has_separator (nesting_past t.kind n) rest
separator_more zero t rest other = separator_outside t.kind t rest refl (other refl).0 (other refl).1
separator_more (suc n) t rest other = separator_inside n t rest

separator_here : (t : Token) (rest : List Token) → separates t.kind ≡ true → has_separator 0 (t ∷ rest) ≡ true
unfolding has_separator
separator_here t rest e = rw e refl

separator_none : (t : Token) (rest : List Token) → separates t.kind ≡ false → closes t.kind ≡ true → has_separator 0 (t ∷ rest) ≡ false
unfolding has_separator
separator_none t rest e close = rw (e, close) refl

-- a round of the loop, at a token in so many brackets: what is said from there on is what is said of all
module _
    (tokens : List Token)
    (at : ℕ)
    (d : Token)
    (lt : at < length tokens)
    (n : ℕ)
    (total : Bool)
    (so_far : has_separator n (drop at tokens) ≡ total)
  where
    here : has_separator n (get_or tokens at d ∷ drop (at + 1) tokens) ≡ total
    here = sym (ap (has_separator n) (drop_more tokens at d lt)) ∙ so_far

    outside : n ≡ 0 → has_separator 0 (get_or tokens at d ∷ drop (at + 1) tokens) ≡ total
    outside none = ap (λ m. has_separator m (get_or tokens at d ∷ drop (at + 1) tokens)) (sym none) ∙ here

    pub separator_found : n ≡ 0 → separates (get_or tokens at d).kind ≡ true → true ≡ total
    separator_found none e = sym (separator_here _ _ e) ∙ outside none

    pub separator_closed : n ≡ 0 → separates (get_or tokens at d).kind ≡ false → closes (get_or tokens at d).kind ≡ true → false ≡ total
    separator_closed none e close = sym (separator_none _ _ e close) ∙ outside none

    pub separator_goes_on : (n ≡ 0 → (separates (get_or tokens at d).kind ≡ false) × (closes (get_or tokens at d).kind ≡ false)) → (next : ℕ) → next ≡ nesting_past (get_or tokens at d).kind n → has_separator next (drop (at + 1) tokens) ≡ total
    separator_goes_on other next is =
        ap (λ m. has_separator m (drop (at + 1) tokens)) is ∙ (sym (separator_more n _ _ other) ∙ here)

pub separator_ends : (tokens : List Token) (at n : ℕ) → length tokens ≤ at → has_separator n (drop at tokens) ≡ false
unfolding has_separator
separator_ends tokens at zero past = ap (has_separator 0) (drop_past tokens at past)
separator_ends tokens at (suc n) past = ap (has_separator (suc n)) (drop_past tokens at past)

type_inside : (n : ℕ) (t : Token) (rest : List Token) → type_follows (suc n) (t ∷ rest) ≡ type_follows (nesting_past t.kind (suc n)) rest
unfolding type_follows
type_inside n t rest = ap (λ m. type_follows m rest) (past_behind t.kind n)

-- past a bracket, and at another token
type_bracket : (t : Token) (rest : List Token) → t.kind ≡ LeftBracket → type_follows 0 (t ∷ rest) ≡ (first_is is_no_index rest || type_follows 1 rest)
unfolding type_follows
type_bracket t rest e = rw e refl

no_length : (k : TokenKind) (behind : Bool) → (k ≡ LeftBracket → ⊥) → past_length k behind ≡ only_begins_type k
no_length LeftBracket behind not = absurd (not refl)
no_length _ behind not = refl

type_other : (t : Token) (rest : List Token) → (t.kind ≡ LeftBracket → ⊥) → type_follows 0 (t ∷ rest) ≡ only_begins_type t.kind
unfolding type_follows
type_other t rest not = no_length t.kind _ not

type_more : (n : ℕ) (t : Token) (rest : List Token) → (n ≡ 0 → (t.kind ≡ LeftBracket) × (first_is is_no_index rest ≡ false)) → type_follows n (t ∷ rest) ≡ type_follows (nesting_past t.kind n) rest
type_more zero t rest bracket =
    let b = bracket refl in
    type_bracket t rest b.0
    ∙ (ap (λ begins. begins || type_follows 1 rest) b.1 ∙ ap (λ k. type_follows (nesting_past k 0) rest) (sym b.0))
type_more (suc n) t rest bracket = type_inside n t rest

module _
    (tokens : List Token)
    (at : ℕ)
    (d : Token)
    (lt : at < length tokens)
    (n : ℕ)
    (total : Bool)
    (so_far : type_follows n (drop at tokens) ≡ total)
  where
    type_here : type_follows n (get_or tokens at d ∷ drop (at + 1) tokens) ≡ total
    type_here = sym (ap (type_follows n) (drop_more tokens at d lt)) ∙ so_far

    type_outside : n ≡ 0 → type_follows 0 (get_or tokens at d ∷ drop (at + 1) tokens) ≡ total
    type_outside none =
        ap (λ m. type_follows m (get_or tokens at d ∷ drop (at + 1) tokens)) (sym none) ∙ type_here

    pub type_ends_here : n ≡ 0 → ((get_or tokens at d).kind ≡ LeftBracket → ⊥) → only_begins_type (get_or tokens at d).kind ≡ total
    type_ends_here none not = sym (type_other _ _ not) ∙ type_outside none

    pub type_begins : n ≡ 0 → (get_or tokens at d).kind ≡ LeftBracket → first_is is_no_index (drop (at + 1) tokens) ≡ true → true ≡ total
    type_begins none bracket begins =
        sym (type_bracket _ _ bracket ∙ ap (λ b. b || type_follows 1 (drop (at + 1) tokens)) begins) ∙ type_outside none

    pub type_goes_on : (n ≡ 0 → ((get_or tokens at d).kind ≡ LeftBracket) × (first_is is_no_index (drop (at + 1) tokens) ≡ false)) → (next : ℕ) → next ≡ nesting_past (get_or tokens at d).kind n → type_follows next (drop (at + 1) tokens) ≡ total
    type_goes_on bracket next is =
        ap (λ m. type_follows m (drop (at + 1) tokens)) is ∙ (sym (type_more n _ _ bracket) ∙ type_here)

pub type_ends : (tokens : List Token) (at n : ℕ) → length tokens ≤ at → type_follows n (drop at tokens) ≡ false
unfolding type_follows
type_ends tokens at zero past = ap (type_follows 0) (drop_past tokens at past)
type_ends tokens at (suc n) past = ap (type_follows (suc n)) (drop_past tokens at past)

-- What a step of the reader tells that gave something: which token it took, and which way it went.
use Rattle.std.proofs.Common.{◌≡◌, ℕ, zero, suc, Bool, true, false, if◌then◌else◌, List, [], ◌∷◌, ◌⊎◌, inl, inr, refl, ap, subst}
use Rattle.std.specs.Prelude.{Option, Some, None}
use Rattle.std.proofs.lemmas.Option.{none-some, same_Some, option_and_then_some}
use denote.Enum.Bare.{same_true}
use Rattle.lexer.specs.contracts.token.TokenKind.{the_type}
use Rattle.lexer.specs.declared.token.Token.{Token}
use Rattle.lexer.specs.declared.token.TokenKind.{TokenKind}
use Rattle.lexer.specs.Spelling.{same_kind}
use Rattle.tree.specs.Syntax.{Identifier}
use Rattle.meaning.specs.Cursor.{GoText, Cursor, TakesToken, token, TakesSemicolon, semicolon, Semicolons, no_semicolon, semicolon_and, optional, only_if, identifier, optional_identifier, more_identifiers, identifiers}
use Rattle.lexer.specs.declared.token.TokenKind.TheVariants.{Identifier as identifier_kind, Comma, Semicolon}
use Rattle.tree_reader.specs.Reader.{of_next}
use Rattle.tree_reader.specs.Reading.{only_where, stands, behind, take, past, take_semicolon, behind_semicolon, skip_from, skip_semicolons, steps, read_identifier, read_optional_identifier, read_more_identifiers, read_identifiers}

-- what was given has the properties of what is known of it
pub given : {A : Type 0} (P : A → Type 0) (x y : A) → Some x ≡ Some y → P x → P y
given P x y e p = subst P (same_Some x y e) p

-- one of two ways
pub two_ways : {A : Type 0} (b : Bool) (x y z : A)
    → (if b then x else y) ≡ z
    → ((b ≡ true) × (x ≡ z)) ⊎ ((b ≡ false) × (y ≡ z))
two_ways true x y z e = inl (refl, e)
two_ways false x y z e = inr (refl, e)

pub only_where_some : {A : Type 0} (b : Bool) (o : Option A) (x : A)
    → only_where b o ≡ Some x
    → (b ≡ true) × (o ≡ Some x)
only_where_some true o x e = (refl, e)
only_where_some false o x e = absurd (none-some x e)

-- what a table's entry leads to, or what stands in for a missing one
pub option_ways : {A B : Type 0} (absent : B) (present : A → B) (o : Option A) (z : B)
    → (elim o as (λ x. B) [ None ↦ absent | Some a ↦ present a ]) ≡ z
    → ((o ≡ None) × (absent ≡ z)) ⊎ ((a : A) × (o ≡ Some a) × (present a ≡ z))
option_ways absent present None z e = inl (refl, e)
option_ways absent present (Some a) z e = inr (a, refl, e)

pub same_kind_is : (a b : TokenKind) → same_kind a b ≡ true → a ≡ b
unfolding same_kind
same_kind_is a b e = same_true the_type tt a b e

-- the first token is of its kind
first_of_kind : (kind : TokenKind) (t : Token) (rest : List Token)
    → same_kind t.kind kind ≡ true
    → t ∷ rest ≡ record { kind = kind; start = t.start; end = t.end } ∷ rest
first_of_kind kind t rest e =
    ap (λ (k : TokenKind). record { kind = k; start = t.start; end = t.end } ∷ rest) (same_kind_is t.kind kind e)

pub stands-sound : (kind : TokenKind) (place : Cursor) → stands kind place ≡ true → TakesToken kind place (behind place)
unfolding stands
stands-sound kind place e = by_list place.end place.left e where
  by_list : (end : ℕ) (left : List Token)
      → stands kind record { left = left; end = end } ≡ true
      → TakesToken kind record { left = left; end = end } (behind record { left = left; end = end })
  by_list end [] e = cc
  by_list end (t ∷ rest) e =
      record { start = t.start; taken = first_of_kind kind t rest e }

pub take-sound : (kind : TokenKind) (from to : Cursor) → take kind from ≡ Some to → TakesToken kind from to
unfolding take
take-sound kind from to e =
    let h = only_where_some (stands kind from) (Some (behind from)) to e in
    given (TakesToken kind from) (behind from) to h.1 (stands-sound kind from h.0)

-- a token that need not stand here
pub past-sound : (kind : TokenKind) (place : Cursor) → only_if (stands kind place) (token kind) place (past kind place)
unfolding past
past-sound kind place = by_value (stands kind place) (stands-sound kind place) where
  by_value : (b : Bool)
      → (b ≡ true → TakesToken kind place (behind place))
      → only_if b (token kind) place (if b then behind place else place)
  by_value true taken = taken refl
  by_value false taken = refl

pub past-optional : (kind : TokenKind) (place : Cursor) → optional (token kind) place (past kind place)
unfolding past
past-optional kind place = by_value (stands kind place) (stands-sound kind place) where
  by_value : (b : Bool)
      → (b ≡ true → TakesToken kind place (behind place))
      → optional (token kind) place (if b then behind place else place)
  by_value true taken = inr (taken refl)
  by_value false taken = inl refl

-- semicolons
pub behind_semicolon-sound : (place : Cursor)
    → stands Semicolon place ≡ true
    → TakesSemicolon place (behind_semicolon place)
behind_semicolon-sound place e =
    let h = stands-sound Semicolon place e in
    record { start = h.start; stop = (behind place).end; taken = h.taken; stays = refl }

pub take_semicolon-sound : (from to : Cursor) → take_semicolon from ≡ Some to → semicolon from to
unfolding take_semicolon
take_semicolon-sound from to e =
    elim (two_ways (stands Semicolon from) _ _ (Some to) e) [
      | inl c ↦ given (semicolon from) _ to c.1 (inl (behind_semicolon-sound from c.0))
      | inr c ↦ (let k = only_where_some _ _ to c.1 in given (semicolon from) _ to k.1 (inr (refl, k.0)))
    ]

semicolon_first : (end : ℕ) (t : Token) (rest : List Token)
    → same_kind t.kind Semicolon ≡ true
    → TakesSemicolon record { left = t ∷ rest; end = end } record { left = rest; end = end }
semicolon_first end t rest e =
    record { start = t.start; stop = t.end; taken = first_of_kind Semicolon t rest e; stays = refl }

skip_from-sound : (end : ℕ) (left : List Token) → Semicolons record { left = left; end = end } (skip_from end left)
unfolding skip_from
skip_from-sound end [] = no_semicolon
skip_from-sound end (t ∷ rest) =
    by_value (same_kind t.kind Semicolon) (skip_from end rest) (semicolon_first end t rest) (skip_from-sound end rest)
  where
    from : Cursor
    from = record { left = t ∷ rest; end = end }

    by_value : (b : Bool) (more : Cursor)
        → (b ≡ true → TakesSemicolon from record { left = rest; end = end })
        → Semicolons record { left = rest; end = end } more
        → Semicolons from (if b then more else from)
    by_value true more taken h = semicolon_and (taken refl) h
    by_value false more taken h = no_semicolon

pub skip_semicolons-sound : (place : Cursor) → Semicolons place (skip_semicolons place)
skip_semicolons-sound place = skip_from-sound place.end place.left

-- the next token, of which a table says something
pub of_next-sound : {A : Type 0} (f : TokenKind → Option A) (place : Cursor) (a : A)
    → of_next f place ≡ Some a
    → (kind : TokenKind) × (f kind ≡ Some a) × TakesToken kind place (behind place)
of_next-sound f place a e = by_list place.end place.left e where
  by_list : (end : ℕ) (left : List Token)
      → of_next f record { left = left; end = end } ≡ Some a
      → let place : Cursor = record { left = left; end = end } in
      (kind : TokenKind) × (f kind ≡ Some a) × TakesToken kind place (behind place)
  by_list end [] e = absurd (none-some a e)
  by_list end (t ∷ rest) e = (t.kind, e, record { start = t.start; taken = refl })

module _ (text : GoText) where
  pub read_identifier-sound : (from : Cursor) (x : Identifier × Cursor)
      → read_identifier text from ≡ Some x
      → identifier text x.0 from x.1
  unfolding read_identifier
  read_identifier-sound from x e =
      option_and_then_some _ (take identifier_kind from) x e λ end end-read end-then.
      given (λ (x : Identifier × Cursor). identifier text x.0 from x.1) _ x end-then
      ((take-sound identifier_kind from end end-read, refl), refl, refl)

  abbrev ReadsOptionalIdentifier : Cursor → Option Identifier × Cursor → Type 0
  ReadsOptionalIdentifier from x = optional_identifier text x.0 from x.1

  pub read_optional_identifier-sound : (from : Cursor) (x : Option Identifier × Cursor)
      → read_optional_identifier text from ≡ Some x
      → optional_identifier text x.0 from x.1
  unfolding read_optional_identifier
  read_optional_identifier-sound from x e =
      elim (two_ways (stands identifier_kind from) _ _ (Some x) e) [
        | inl c ↦ option_and_then_some _ (read_identifier text from) x c.1 λ n n-read n-then.
            given (ReadsOptionalIdentifier from) _ x n-then (read_identifier-sound from n n-read)
        | inr c ↦ given (ReadsOptionalIdentifier from) _ x c.1 refl
      ]

  read_more_identifiers-sound : (n : ℕ) (from : Cursor) (x : List Identifier × Cursor)
      → read_more_identifiers text n from ≡ Some x
      → more_identifiers text x.0 from x.1
  unfolding read_more_identifiers
  read_more_identifiers-sound zero from x e = absurd (none-some x e)
  read_more_identifiers-sound (suc n) from x e =
      elim (two_ways (stands Comma from) _ _ (Some x) e) [
        | inl c ↦ option_and_then_some _ (read_identifier text (behind from)) x c.1 λ first first-read first-then.
            option_and_then_some _ (read_more_identifiers text n first.1) x first-then λ more more-read more-then.
            let h = read_identifier-sound (behind from) first first-read in
            given (λ (x : List Identifier × Cursor). more_identifiers text x.0 from x.1) _ x more-then
            (_, stands-sound Comma from c.0, (_, h, read_more_identifiers-sound n first.1 more more-read))
        | inr c ↦ given (λ (x : List Identifier × Cursor). more_identifiers text x.0 from x.1) _ x c.1 refl
      ]

  pub read_identifiers-sound : (from : Cursor) (x : List Identifier × Cursor)
      → read_identifiers text from ≡ Some x
      → identifiers text x.0 from x.1
  unfolding read_identifiers
  read_identifiers-sound from x e =
      option_and_then_some _ (read_identifier text from) x e λ first first-read first-then.
      option_and_then_some _ _ x first-then λ more more-read more-then.
      let h = read_identifier-sound from first first-read in
      given (λ (x : List Identifier × Cursor). identifiers text x.0 from x.1) (first.0 ∷ more.0, more.1) x more-then
      (first.1, h, read_more_identifiers-sound (steps first.1) first.1 more more-read)

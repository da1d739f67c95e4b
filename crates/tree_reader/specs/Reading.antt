-- Reading from a place among the tokens: what was read and the place behind it, or nothing where the tokens are not of
-- the wanted form.
use Rattle.std.specs.Prelude.{ℕ, zero, suc, Bool, true, false, if◌then◌else◌, List, [], ◌∷◌, length, Option, Some, None, option_and_then, slice_range}
use Rattle.lexer.specs.Spelling.{same_kind}
use Rattle.lexer.specs.declared.token.Token.{Token}
use Rattle.lexer.specs.declared.token.TokenKind.{TokenKind}
use Rattle.lexer.specs.declared.token.TokenKind.TheVariants.{Identifier as identifier_kind, Comma, Semicolon}
use Rattle.tree.specs.declared.span.Span.{Span}
use Rattle.tree.specs.Syntax.{Identifier, Expression, expression_node, ExpressionForm, Statement, statement_node, StatementForm}
use Rattle.meaning.specs.Cursor.{GoText, Cursor, is_next, is_closing, start_at}

abbrev pub Read : Type 0 → Type 0
Read A = Option (A × Cursor)

infixl 10 ◌>>=◌
abbrev pub ◌>>=◌ : {A B : Type 0} → Option A → (A → Option B) → Option B
o >>= f = option_and_then f o

-- nothing where the test fails
abbrev pub only_where : {A : Type 0} → Bool → Option A → Option A
only_where true o = o
only_where false o = None

-- a token of this kind stands next
unfoldable pub stands : TokenKind → Cursor → Bool
stands kind place = is_next (λ k. same_kind k kind) place

-- the place behind the next token
abbrev pub behind_first : ℕ → List Token → Cursor
behind_first end [] = record { left = []; end = end }
behind_first end (t ∷ rest) = record { left = rest; end = t.end }

abbrev pub behind : Cursor → Cursor
behind place = behind_first place.end place.left

-- the place behind the next token, of this kind
unfoldable pub take : TokenKind → Cursor → Option Cursor
take kind place = only_where (stands kind place) (Some (behind place))

-- the place behind the next token where it is of this kind
unfoldable pub past : TokenKind → Cursor → Cursor
past kind place = if stands kind place then behind place else place

-- the place behind a semicolon
abbrev pub behind_semicolon : Cursor → Cursor
behind_semicolon place = record { left = (behind place).left; end = place.end }

-- a semicolon, which may be missing before a closing bracket or brace
unfoldable pub take_semicolon : Cursor → Option Cursor
take_semicolon place =
    if stands Semicolon place then Some (behind_semicolon place)
    else only_where (is_next is_closing place) (Some place)

-- the place behind all semicolons that stand next
unfoldable pub skip_from : ℕ → List Token → Cursor
skip_from end [] = record { left = []; end = end }
skip_from end (t ∷ rest) =
    if same_kind t.kind Semicolon then skip_from end rest
    else record { left = t ∷ rest; end = end }

abbrev pub skip_semicolons : Cursor → Cursor
skip_semicolons place = skip_from place.end place.left

-- more steps than there are tokens
abbrev pub steps : Cursor → ℕ
steps place = suc (length place.left)

abbrev pub span_between : Cursor → Cursor → Span
span_between from to = record { start = start_at from; end = to.end }

abbrev pub spanned : Cursor → ExpressionForm → Cursor → Expression × Cursor
spanned from form to = (expression_node form (span_between from to), to)

abbrev pub spanned_statement : Cursor → StatementForm → Cursor → Statement × Cursor
spanned_statement from form to = (statement_node form (span_between from to), to)

module _ (text : GoText) where
  abbrev pub word_between : Cursor → Cursor → List ℕ
  word_between from to = slice_range text.bytes (start_at from) to.end

  unfoldable pub read_identifier : Cursor → Read Identifier
  read_identifier place = do
    end ← take identifier_kind place
    Some (record { text = word_between place end; span = span_between place end }, end)

  unfoldable pub read_optional_identifier : Cursor → Read (Option Identifier)
  read_optional_identifier place =
      if stands identifier_kind place then (do
        n ← read_identifier place
        Some (Some n.0, n.1)
      ) else Some (None, place)

  -- names, each after a comma
  unfoldable pub read_more_identifiers : ℕ → Cursor → Read (List Identifier)
  read_more_identifiers zero place = None
  read_more_identifiers (suc n) place =
      if stands Comma place then (do
        first ← read_identifier (behind place)
        more ← read_more_identifiers n first.1
        Some (first.0 ∷ more.0, more.1)
      ) else Some ([], place)

  unfoldable pub read_identifiers : Cursor → Read (List Identifier)
  read_identifiers place = do
    first ← read_identifier place
    more ← read_more_identifiers (steps first.1) first.1
    Some (first.0 ∷ more.0, more.1)

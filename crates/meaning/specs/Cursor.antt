-- How the grammar's rules are written down. A rule is a relation between the place where a part begins and the place
-- where it ends; a part that follows another begins where that one ends. A place knows the tokens that are left and
-- where the last token ended; a semicolon ends no node, so it leaves that as it was. A semicolon may be missing before
-- `)` and `}`. (The Go specification, "Notation", "Semicolons".)
use Rattle.std.specs.Prelude.{◌≡◌, ℕ, ◌⊎◌, Bool, true, false, List, [], ◌∷◌, Option, Some, None, slice_range}
use Rattle.lexer.specs.declared.token.Token.{Token}
use Rattle.lexer.specs.declared.token.TokenKind.{TokenKind}
use Rattle.lexer.specs.declared.token.TokenKind.TheVariants.{Identifier as identifier_kind, InterpretedString, RawString, RightBrace, RightParenthesis, Comma, Semicolon}
use Rattle.tree.specs.declared.edition.Edition.{Edition}
use Rattle.tree.specs.declared.span.Span.{Span}
use Rattle.tree.specs.Syntax.{Identifier}

-- a text, and the edition of the rules by which it is read
pub record GoText : Type 0 where
  pub edition : Edition
  pub bytes : List ℕ

-- the text as an edition reads it
abbrev pub read_in : Edition → List ℕ → GoText
read_in edition text = record { edition = edition; bytes = text }

-- a place among the tokens: those that are left, and the end of the last one that was taken
pub record Cursor : Type 0 where
  pub left : List Token
  pub end : ℕ

abbrev pub Rule : Type 1
Rule = Cursor → Cursor → Type 0

-- one part, and then the other
infixr 30 ◌⨾◌
abbrev pub ◌⨾◌ : Rule → Rule → Rule
◌⨾◌ first second from to = (between : Cursor) × first from between × second between to

-- the rule, where the tree is as it must be
infixr 20 ◌⇒◌
abbrev pub ◌⇒◌ : Type 0 → Rule → Rule
◌⇒◌ fact rule from to = fact × rule from to

abbrev pub nothing : Rule
nothing from to = from ≡ to

abbrev pub never : Rule
never from to = ⊥

abbrev pub one_of : Rule → Rule → Rule
one_of first second from to = first from to ⊎ second from to

abbrev pub optional : Rule → Rule
optional rule = one_of nothing rule

-- the first rule where the tree says so, else the second
abbrev pub chosen : Bool → Rule → Rule → Rule
chosen true first second = first
chosen false first second = second

abbrev pub only_if : Bool → Rule → Rule
only_if wanted rule = chosen wanted rule nothing

-- a token of this kind
pub record TakesToken (kind : TokenKind) (from to : Cursor) : Type 0 where
  pub start : ℕ
  pub taken : from.left ≡ record { kind = kind; start = start; end = to.end } ∷ to.left

abbrev pub token : TokenKind → Rule
token kind from to = TakesToken kind from to

abbrev pub string_token : Rule
string_token = one_of (token InterpretedString) (token RawString)

-- what the next token is, in the words of a test
abbrev pub first_is : (TokenKind → Bool) → List Token → Bool
first_is test [] = false
first_is test (t ∷ rest) = test t.kind

abbrev pub is_next : (TokenKind → Bool) → Cursor → Bool
is_next test place = first_is test place.left

-- nothing, straight before such a token, or not before one
abbrev pub before : (TokenKind → Bool) → Rule
before test from to = (from ≡ to) × (is_next test from ≡ true)

abbrev pub not_before : (TokenKind → Bool) → Rule
not_before test from to = (from ≡ to) × (is_next test from ≡ false)

-- a semicolon that is there
pub record TakesSemicolon (from to : Cursor) : Type 0 where
  pub start : ℕ
  pub stop : ℕ
  pub taken : from.left ≡ record { kind = Semicolon; start = start; end = stop } ∷ to.left
  pub stays : to.end ≡ from.end

abbrev pub is_closing : TokenKind → Bool
is_closing RightParenthesis = true
is_closing RightBrace = true
is_closing _ = false

abbrev pub semicolon : Rule
semicolon from to = TakesSemicolon from to ⊎ before is_closing from to

-- semicolons, each after an empty statement
pub data Semicolons : Cursor → Cursor → Type 0 where
  no_semicolon : {place : Cursor} → Semicolons place place
  semicolon_and : {from between to : Cursor}
      → TakesSemicolon from between
      → Semicolons between to
      → Semicolons from to

abbrev pub semicolons : Rule
semicolons from to = Semicolons from to

-- where the next token begins
abbrev pub first_start : ℕ → List Token → ℕ
first_start end [] = end
first_start end (t ∷ rest) = t.start

abbrev pub start_at : Cursor → ℕ
start_at place = first_start place.end place.left

-- the span of a node runs from its first token to its last
abbrev pub spanning : Span → Rule → Rule
spanning span rule from to = rule from to × (span.start ≡ start_at from) × (span.end ≡ to.end)

module _ (text : GoText) where
  -- the token of a name that is written so in the text
  abbrev pub word : List ℕ → Rule
  word name from to = token identifier_kind from to × (name ≡ slice_range text.bytes (start_at from) to.end)

  abbrev pub identifier : Identifier → Rule
  identifier n = spanning n.span (word n.text)

  abbrev pub optional_identifier : Option Identifier → Rule
  optional_identifier None = nothing
  optional_identifier (Some n) = identifier n

  abbrev pub more_identifiers : List Identifier → Rule
  more_identifiers [] = nothing
  more_identifiers (n ∷ ns) = token Comma ⨾ identifier n ⨾ more_identifiers ns

  -- one name or more, with commas between
  abbrev pub identifiers : List Identifier → Rule
  identifiers [] = never
  identifiers (n ∷ ns) = identifier n ⨾ more_identifiers ns

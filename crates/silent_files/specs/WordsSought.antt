-- Words that are sought in a text: where the bytes of none of them stand, no identifier token is one of them; where
-- some do, the tokens tell.
-- (The Go specification, "Identifiers".)
use Rattle.std.specs.Prelude.{ℕ, ◌&&◌, Bool, true, false, List, map, Contains, slice_range}
use Rattle.std.specs.Borrow.{Bor}
use Rattle.std.specs.List.{list_any}
use Rattle.std.specs.Str.{bytes_eq}
use Rattle.lexer.specs.declared.token.Token.{Token}
use Rattle.lexer.specs.declared.token.TokenKind.{TokenKind}
use Rattle.lexer.specs.declared.token.TokenKind.TheVariants.{Identifier as identifier_kind}
use Rattle.lexer.specs.Tokens.{IsTokens}
use Rattle.memchr.specs.Find.{OccursAt}
use Rattle.silent_files.specs.NamedWords.{IsWord}

-- the words as bytes
abbrev pub bytes_of : List (Bor (List ℕ)) → List (List ℕ)
bytes_of = map (λ word. word.now)

-- an identifier token of the text is one of the words
pub record NamesOne (words : List (List ℕ)) (text : List ℕ) : Type 0 where
  pub word : List ℕ
  pub among : Contains words word
  pub tokens : List Token
  pub cut : IsTokens text tokens
  pub at : ℕ
  pub is_word : IsWord record { text = text; tokens = tokens } word at

-- the bytes of none of the words stand in the text
abbrev pub NoneOccurs : List (List ℕ) → List ℕ → Type 0
NoneOccurs words text = (word : List ℕ) (at : ℕ) → Contains words word → OccursAt text word at → ⊥

abbrev pub is_identifier : TokenKind → Bool
is_identifier identifier_kind = true
is_identifier _ = false

-- the token is one of the words
abbrev pub is_one_of : List ℕ → List (List ℕ) → Token → Bool
is_one_of text words t =
    is_identifier t.kind && list_any (bytes_eq (slice_range text t.start t.end)) words

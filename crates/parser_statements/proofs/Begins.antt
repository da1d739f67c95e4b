-- What a statement's first token says of it.
use Rattle.std.proofs.Common.{◌≡◌, ℕ, List, [], ◌∷◌, refl}
use Rattle.lexer.specs.declared.token.Token.{Token}
use Rattle.lexer.specs.declared.token.TokenKind.{TokenKind}
use Rattle.lexer.specs.declared.token.TokenKind.TheVariants.{Identifier}
use Rattle.lexer.specs.Spelling.{same_kind}
use Rattle.tree.specs.declared.edition.Edition.{Edition}
use Rattle.tree.specs.declared.edition.Edition.TheVariants.{First, Second}
use Rattle.meaning.specs.Cursor.{Cursor, GoText, read_in}
use Rattle.tree_reader.specs.Reader.{Readers, read_other_statement}
use Rattle.tree_reader.specs.Reading.{stands}
use Rattle.parser_statements.specs.Starts.{next_start, read_start}

module _ (bytes : List ℕ) (r : Readers) (below : ℕ) where
  abbrev StartTells : Edition → Cursor → Type 0
  StartTells edition place =
      read_other_statement (read_in edition bytes) r below place
      ≡ read_start (read_in edition bytes) r below (next_start edition place) place

  at_kind : (edition : Edition) (kind : TokenKind) (start end : ℕ) (rest : List Token) (last : ℕ) → StartTells edition record { left = record { kind = kind; start = start; end = end } ∷ rest; end = last }
  unfolding read_other_statement stands same_kind
  at_kind First Identifier start end rest last = refl
  at_kind First _ start end rest last = refl
  at_kind Second Identifier start end rest last = refl
  at_kind Second _ start end rest last = refl

  at_tokens : (edition : Edition) (left : List Token) (last : ℕ) → StartTells edition record { left = left; end = last }
  unfolding read_other_statement stands
  at_tokens First [] last = refl
  at_tokens Second [] last = refl
  at_tokens edition (t ∷ rest) last = at_kind edition t.kind t.start t.end rest last

module _ (text : GoText) (r : Readers) (below : ℕ) where
  pub by_start : (place : Cursor) → read_other_statement text r below place ≡ read_start text r below (next_start text.edition place) place
  by_start place = at_tokens text.bytes r below text.edition place.left place.end

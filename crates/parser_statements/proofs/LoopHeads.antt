-- Headers of loops.
use Rattle.std.proofs.Common.{◌≡◌, ℕ, List, true, refl}
use Rattle.std.specs.Prelude.{◌&&◌, Some}
use Rattle.lexer.specs.declared.token.TokenKind.TheVariants.{Define, RangeKeyword}
use Rattle.tree.specs.Syntax.{Identifier, Expressions, range_definition}
use Rattle.meaning.specs.Cursor.{Cursor, GoText}
use Rattle.tree_reader.specs.Reader.{Readers, as_identifiers, read_range, read_for_after}
use Rattle.tree_reader.specs.Reading.{stands, behind}

module _ (text : GoText) (r : Readers) (below : ℕ) (from start : Cursor) (es : Expressions) (place : Cursor) where
  pub names-range : (ns : List Identifier) → (stands Define place && stands RangeKeyword (behind place)) ≡ true → as_identifiers es ≡ Some ns → read_for_after text r below from start es place ≡ read_range text r below from (range_definition ns) (behind place)
  unfolding read_for_after
  names-range ns h e = rw (h, e) refl

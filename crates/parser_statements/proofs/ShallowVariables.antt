-- Variables, which have a type or values, each at least one deep.
use Rattle.std.proofs.Common.{◌≡◌, ℕ, Bool, true, false, List, Some, None, refl}
use Rattle.lexer.specs.declared.token.TokenKind.TheVariants.{Assign}
use Rattle.tree.specs.declared.operator.DeclKeyword.{DeclKeyword}
use Rattle.tree.specs.declared.operator.DeclKeyword.TheVariants.{Var}
use Rattle.tree.specs.Syntax.{Identifier}
use Rattle.meaning.specs.Cursor.{Cursor, is_next, GoText}
use Rattle.meaning.specs.OperatorTokens.{can_begin_type}
use Rattle.tree_reader.specs.Reader.{no_readers, readers, read_expressions, read_value_spec}
use Rattle.tree_reader.specs.Reading.{Read, stands, read_identifiers}

module _ (text : GoText) (place : Cursor) where
  module _ (ns : List Identifier) (rest : Cursor) (names : read_identifiers text place ≡ Some (ns, rest)) where
    after_names : (kind value : Bool) → is_next can_begin_type rest ≡ kind → stands Assign rest ≡ value → read_value_spec text no_readers Var place ≡ None
    unfolding read_value_spec read_expressions
    after_names true value k v = rw (names, k) refl
    after_names false true k v = rw (names, k, v) refl
    after_names false false k v = rw (names, k, v) refl

  no_variables : (read : Read (List Identifier)) → read_identifiers text place ≡ read → read_value_spec text no_readers Var place ≡ None
  unfolding read_value_spec
  no_variables None names = rw names refl
  no_variables (Some ns) names = after_names ns.0 ns.1 names (is_next can_begin_type ns.1) (stands Assign ns.1) refl refl

  pub no-variables : (below : ℕ) (keyword : DeclKeyword) → below ≡ 0 → keyword ≡ Var → read_value_spec text (readers text below) keyword place ≡ None
  unfolding readers
  no-variables below keyword none is = rw (none, is) (no_variables (read_identifiers text place) refl)

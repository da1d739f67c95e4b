-- A type parameter that was read as the length of an array: of `P * Y` or `P (Y)`, perhaps with `| Z`, what stands
-- behind the name P is its constraint. (The Go specification, "Type parameter declarations".)
use Rattle.std.specs.Prelude.{ℕ, Bool, false, ◌&&◌, Option, Some, None}
use Rattle.lexer.specs.declared.token.TokenKind.TheVariants.{LeftParenthesis}
use Rattle.tree.specs.declared.operator.BinaryOperator.TheVariants.{Or, Multiply}
use Rattle.tree.specs.declared.span.Span.{Span}
use Rattle.tree.specs.Syntax.{Expression, expression_node, ExpressionForm, parenthesized, call_expression, star_expression, binary_expression}
use Rattle.meaning.specs.Cursor.{Cursor}
use Rattle.meaning.specs.TypeParameters.{has_separator}
use Rattle.tree_reader.specs.Reader.{single}
use Rattle.tree_reader.specs.Reading.{◌>>=◌, stands, behind}

-- the constraint that begins at this offset, and ends where the expression does
unfoldable mutual
  pub constraint_of : ℕ → Expression → Option Expression
  constraint_of start (expression_node form span) = constraint_form record { start = start; end = span.end } form

  pub constraint_form : Span → ExpressionForm → Option Expression
  constraint_form span (binary_expression Or l r) = do
    c ← constraint_of span.start l
    Some (expression_node (binary_expression Or c r) span)
  constraint_form span (binary_expression Multiply l r) = Some (expression_node (star_expression r) span)
  constraint_form span (call_expression e es false) = do
    y ← single es
    Some (expression_node (parenthesized y) span)
  constraint_form span form = None

-- Behind a name a comma stands in parentheses, outside all brackets in them. There the argument of a call may have a
-- comma behind it, and a type may not.
abbrev pub has_comma : Cursor → Bool
has_comma name = stands LeftParenthesis (behind name) && has_separator 0 (behind (behind name)).left

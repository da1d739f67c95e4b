-- How the parts of what is read are read, and the tests of a step that reads nothing yet.
use Rattle.std.specs.Prelude.{ℕ, nat_le, Bool, true, not, ◌&&◌, ◌||◌, if◌then◌else◌, Option, Some, None, Result}
use Rattle.lexer.specs.declared.token.TokenKind.TheVariants.{LeftParenthesis, LeftBracket, LeftBrace, Dot}
use Rattle.tree.specs.declared.expression.Expr.{Expr}
use Rattle.tree.specs.declared.statement.Stmt.{Stmt}
use Rattle.tree.specs.declared.operator.BinaryOperator.{BinaryOperator}
use Rattle.tree.specs.Syntax.{Expression}
use Rattle.tree.specs.declared.statement.Block.{Block}
use Rattle.tree.specs.View.{expression_syntax, statement_syntax, block_syntax}
use Rattle.meaning.specs.Cursor.{Cursor}
use Rattle.meaning.specs.WellFormed.{operator_level}
use Rattle.tree.specs.declared.edition.Edition.{Edition}
use Rattle.tree_reader.specs.Reader.{Readers, Braced, of_next, binary_operator, is_guard, takes_braces}
use Rattle.tree_reader.specs.Reading.{Read, stands}
use Rattle.parser_base.specs.declared.cursor.SourceTokens.{SourceTokens}
use Rattle.parser_base.specs.declared.cursor.TokenPlace.{TokenPlace}
use Rattle.parser_base.specs.declared.fault.Stop.{Stop}
use Rattle.parser_base.specs.declared.parts.Wanted.{Wanted}
use Rattle.parser_base.specs.declared.parts.Wanted.TheVariants.{Expression as wanted_expression, TypeExpression, Element}
use Rattle.parser_base.specs.Gives.{Gives}
use Rattle.parser_base.specs.Places.{cursor, seen, parts_of}

abbrev pub read_wanted : Readers → Wanted → Cursor → Read Expression
read_wanted r (wanted_expression header least) place = r.read_expression header least place
read_wanted r TypeExpression place = r.read_type place
read_wanted r Element place = r.read_value place

-- The parts of what is read from a source are read by a function that may be called so, and then returns so.
pub record ReadsExpressions
    (source : SourceTokens)
    (pre : Wanted → TokenPlace → Type 0)
    (post : Wanted → TokenPlace → Result (Expr × TokenPlace) Stop → Type 0)
    : Type 0 where
  pub may_be_called : (wanted : Wanted) (place : TokenPlace) → pre wanted place
  pub gives : (wanted : Wanted)
      (place : TokenPlace)
      (result : Result (Expr × TokenPlace) Stop)
      → post wanted place result
      → Gives (seen source expression_syntax) result (read_wanted (parts_of source) wanted (cursor source place))

pub record ReadsStatements
    (source : SourceTokens)
    (pre : TokenPlace → Type 0)
    (post : TokenPlace → Result (Stmt × TokenPlace) Stop → Type 0)
    : Type 0 where
  pub may_be_called : (place : TokenPlace) → pre place
  pub gives : (place : TokenPlace)
      (result : Result (Stmt × TokenPlace) Stop)
      → post place result
      → Gives (seen source statement_syntax) result ((parts_of source).read_statement (cursor source place))

-- a primary expression goes on after what was read of it
abbrev pub goes_on : Edition → Bool → Expression → Cursor → Bool
goes_on edition header e place =
    if stands Dot place then not (is_guard place)
    else if stands LeftBracket place || stands LeftParenthesis place then true
    else stands LeftBrace place && (not header && takes_braces edition e)

-- the operator between two operands, where it is of at least that level
abbrev pub at_least : ℕ → Option BinaryOperator → Option BinaryOperator
at_least least None = None
at_least least (Some op) = if nat_le least (operator_level op) then Some op else None

abbrev pub next_operator : ℕ → Cursor → Option BinaryOperator
next_operator least place = at_least least (of_next binary_operator place)

-- a block as it is read
abbrev pub braced : Block → Braced
braced b = record { statements = (block_syntax b).statements; braces = (block_syntax b).braces }

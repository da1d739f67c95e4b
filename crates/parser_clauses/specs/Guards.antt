-- What a `switch` looks at, seen as the reader's.
use Rattle.std.specs.Prelude.{Bool, List, [], ◌∷◌, Option, Some, None, option_map}
use Rattle.lexer.specs.declared.token.TokenKind.TheVariants.{TypeKeyword, LeftParenthesis, RightParenthesis}
use Rattle.tree.specs.Syntax.{OptionalStatement, CaseClauses, StatementForm, switch_statement, type_switch_statement}
use Rattle.tree.specs.View.{expression_syntax, identifier_syntax, optional_expression_syntax}
use Rattle.meaning.specs.Cursor.{Cursor}
use Rattle.tree_reader.specs.Reader.{Guard, of_value, of_type}
use Rattle.tree_reader.specs.Reading.{◌>>=◌, take}
use Rattle.parser_clauses.specs.declared.switches.Guard.{Guard as KeptGuard}
use Rattle.parser_clauses.specs.declared.switches.Guard.TheVariants.{Value, «Type» as kept_type}

abbrev pub guard_syntax : KeptGuard → Guard
guard_syntax (Value tag) = of_value (optional_expression_syntax tag)
guard_syntax (kept_type name operand) = of_type (option_map identifier_syntax name) (expression_syntax operand.value)

-- the only one of a list
abbrev pub only : {A : Type 0} → List A → Option A
only (x ∷ []) = Some x
only xs = None

-- the place after `(type)`
abbrev pub behind_type : Cursor → Option Cursor
behind_type place = do
  inner ← take LeftParenthesis place
  word ← take TypeKeyword inner
  take RightParenthesis word

-- a `switch` of its parts
abbrev pub switch_form_of : OptionalStatement → Bool → Guard → CaseClauses → StatementForm
switch_form_of init semicolon (of_value tag) cs = switch_statement init semicolon tag cs
switch_form_of init semicolon (of_type n e) cs = type_switch_statement init semicolon n e cs

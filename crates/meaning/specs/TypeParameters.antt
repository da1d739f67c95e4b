-- What follows a new type's name in brackets: the length of an array, or type parameters. After `[` and a name it is a
-- length where an expression and then `]` can be read, else type parameters. An expression takes neither a comma nor
-- `~` outside all brackets, and past a name, and lengths in brackets behind it, it does not go on with a token that
-- only begins a type. Yet it is type parameters where the expression would be `P * Y` or `P (Y)`, perhaps with `| Z`,
-- and in Y or a Z stands a type that begins with `[` or a keyword. So Go's own parser reads these.
-- (The Go specification, "Type parameter declarations".)
use Rattle.std.specs.Prelude.{ℕ, zero, suc, Bool, true, false, ◌||◌, ◌&&◌, if◌then◌else◌, List, [], ◌∷◌}
use Rattle.lexer.specs.declared.token.Token.{Token}
use Rattle.lexer.specs.declared.token.TokenKind.{TokenKind}
use Rattle.lexer.specs.declared.token.TokenKind.TheVariants.{Identifier, ChanKeyword, FuncKeyword, InterfaceKeyword, MapKeyword, StructKeyword, Arrow, Comma, Tilde, Ellipsis, LeftParenthesis, RightParenthesis, LeftBracket, RightBracket, LeftBrace, RightBrace}
use Rattle.tree.specs.declared.operator.BinaryOperator.TheVariants.{Or, Multiply}
use Rattle.tree.specs.Syntax.{Expression, expression_node, ExpressionForm, parenthesized, call_expression, star_expression, unary_expression, binary_expression, array_type, ellipsis_array_type, slice_type, map_type, channel_type, function_type, struct_type, interface_type, no_expression, expression_and, Parameters, no_parameter, named_and}
use Rattle.meaning.specs.Cursor.{first_is}
use Rattle.meaning.specs.WellFormed.{is_name, is_type}

-- in how many brackets the next token stands, where this one stands in some
abbrev pub nesting_behind : TokenKind → ℕ → ℕ
nesting_behind LeftParenthesis n = suc (suc n)
nesting_behind LeftBracket n = suc (suc n)
nesting_behind LeftBrace n = suc (suc n)
nesting_behind RightParenthesis n = n
nesting_behind RightBracket n = n
nesting_behind RightBrace n = n
nesting_behind kind n = suc n

abbrev pub separates : TokenKind → Bool
separates Comma = true
separates Tilde = true
separates kind = false

abbrev pub closes : TokenKind → Bool
closes RightParenthesis = true
closes RightBracket = true
closes RightBrace = true
closes kind = false

-- a comma or `~` outside all brackets, up to where the bracket around it closes
unfoldable pub has_separator : ℕ → List Token → Bool
has_separator n [] = false
has_separator zero (t ∷ rest) =
    if separates t.kind then true else if closes t.kind then false else has_separator (behind_first t.kind) rest
  where
    behind_first : TokenKind → ℕ
    behind_first LeftParenthesis = 1
    behind_first LeftBracket = 1
    behind_first LeftBrace = 1
    behind_first kind = 0
has_separator (suc n) (t ∷ rest) = has_separator (nesting_behind t.kind n) rest

-- a token that begins a type, and with which no expression goes on
abbrev pub only_begins_type : TokenKind → Bool
only_begins_type Identifier = true
only_begins_type ChanKeyword = true
only_begins_type FuncKeyword = true
only_begins_type InterfaceKeyword = true
only_begins_type MapKeyword = true
only_begins_type StructKeyword = true
only_begins_type Arrow = true
only_begins_type kind = false

-- `[]` and `[...]` begin types, and are no index
abbrev pub is_no_index : TokenKind → Bool
is_no_index RightBracket = true
is_no_index Ellipsis = true
is_no_index kind = false

abbrev pub past_length : TokenKind → Bool → Bool
past_length LeftBracket behind = behind
past_length kind behind = only_begins_type kind

-- past lengths in brackets such a token stands
unfoldable pub type_follows : ℕ → List Token → Bool
type_follows n [] = false
type_follows zero (t ∷ rest) = past_length t.kind (first_is is_no_index rest || type_follows 1 rest)
type_follows (suc n) (t ∷ rest) = type_follows (nesting_behind t.kind n) rest

abbrev pub is_identifier : TokenKind → Bool
is_identifier Identifier = true
is_identifier kind = false

-- by the tokens from `[` on, type parameters stand there
unfoldable pub begins_parameters : List Token → Bool
begins_parameters (bracket ∷ name ∷ rest) = is_identifier name.kind && (has_separator 0 rest || type_follows 0 rest)
begins_parameters tokens = false

-- a type that begins with `[` or a keyword stands in the expression, outside all but operators and parentheses
unfoldable mutual
  pub has_type : Expression → Bool
  has_type (expression_node form span) = has_type_form form

  pub has_type_form : ExpressionForm → Bool
  has_type_form (parenthesized e) = has_type e
  has_type_form (star_expression e) = has_type e
  has_type_form (unary_expression op e) = has_type e
  has_type_form (binary_expression op l r) = has_type l || has_type r
  has_type_form (array_type n t) = true
  has_type_form (ellipsis_array_type t) = true
  has_type_form (slice_type t) = true
  has_type_form (map_type k t) = true
  has_type_form (channel_type direction t) = true
  has_type_form (function_type signature) = true
  has_type_form (struct_type fs) = true
  has_type_form (interface_type fs) = true
  has_type_form form = false

-- `P * Y` or `P (Y)`, perhaps with `| Z`
unfoldable mutual
  pub splits : Expression → Bool
  splits (expression_node form span) = splits_form form

  pub splits_form : ExpressionForm → Bool
  splits_form (binary_expression Multiply l r) = is_name l
  splits_form (binary_expression Or l r) = splits l
  splits_form (call_expression e (expression_and y no_expression) false) = is_name e
  splits_form form = false

-- such a type stands in Y or a Z of it
unfoldable mutual
  pub split_has_type : Expression → Bool
  split_has_type (expression_node form span) = split_form_has_type form

  pub split_form_has_type : ExpressionForm → Bool
  split_form_has_type (binary_expression Multiply l r) = has_type r
  split_form_has_type (binary_expression Or l r) = split_has_type l || has_type r
  split_form_has_type (call_expression e (expression_and y no_expression) false) = has_type y
  split_form_has_type form = false

-- the expression is no length, since it is read as a type parameter
abbrev pub is_parameter : Expression → Bool
is_parameter e = splits e && split_has_type e

-- a constraint that makes such an expression with the name before it
unfoldable mutual
  pub joins : Expression → Bool
  joins (expression_node form span) = joins_form form

  pub joins_form : ExpressionForm → Bool
  joins_form (binary_expression Or l r) = joins l && is_type r
  joins_form (star_expression e) = true
  joins_form (parenthesized e) = true
  joins_form form = false

abbrev pub is_one_parameter : Parameters → Bool
is_one_parameter (named_and n ellipsis t no_parameter) = joins t && has_type t
is_one_parameter ps = false

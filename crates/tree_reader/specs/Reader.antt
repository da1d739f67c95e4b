-- How a file is read from its tokens: a function on them, one for each rule of the grammar. What a node's parts are
-- read by is given, with one less depth for each; at the end the two ends are tied. A list is read in at most as many
-- steps as there are tokens.
use Rattle.std.specs.Prelude.{ℕ, zero, suc, ◌+◌, ◌-◌, nat_le, Bool, true, false, ◌&&◌, ◌||◌, not, if◌then◌else◌, List, [], ◌∷◌, Option, Some, None, slice_range}
use Rattle.lexer.specs.declared.token.Token.{Token}
use Rattle.lexer.specs.declared.token.TokenKind.{TokenKind}
use Rattle.lexer.specs.declared.token.TokenKind.TheVariants.{Identifier as identifier_kind, Number as number_token, Rune as rune_token, InterpretedString as interpreted_string_token, RawString as raw_string_token, BreakKeyword, CaseKeyword, ChanKeyword, ConstKeyword, ContinueKeyword, DefaultKeyword, DeferKeyword, ElseKeyword, FallthroughKeyword, ForKeyword, FuncKeyword, GoKeyword, GotoKeyword, IfKeyword, ImportKeyword, InterfaceKeyword, MapKeyword, PackageKeyword, RangeKeyword, ReturnKeyword, SelectKeyword, StructKeyword, SwitchKeyword, TypeKeyword, VarKeyword, Plus as plus_token, Minus, Star, Slash, Percent, Ampersand, Pipe, Caret, ShiftLeft as shift_left_token, ShiftRight as shift_right_token, AndNot as and_not_token, PlusAssign, MinusAssign, StarAssign, SlashAssign, PercentAssign, AmpersandAssign, PipeAssign, CaretAssign, ShiftLeftAssign, ShiftRightAssign, AndNotAssign, LogicalAnd as logical_and_token, LogicalOr as logical_or_token, Arrow, Increment, Decrement, EqualEqual, LessThan, GreaterThan, Assign, Bang, NotEqual as not_equal_token, LessOrEqual as less_or_equal_token, GreaterOrEqual as greater_or_equal_token, Define, Ellipsis, LeftParenthesis, RightParenthesis, LeftBracket, RightBracket, LeftBrace, RightBrace, Comma, Semicolon, Dot, Colon, Tilde as tilde_token}
use Rattle.tree.specs.declared.edition.Edition.{Edition}
use Rattle.tree.specs.declared.edition.Edition.TheVariants.{First, Second}
use Rattle.tree.specs.declared.span.Span.{Span}
use Rattle.tree.specs.declared.operator.BasicLitKind.{BasicLitKind}
use Rattle.tree.specs.declared.operator.BasicLitKind.TheVariants.{Number, Rune, InterpretedString, RawString}
use Rattle.tree.specs.declared.operator.BinaryOperator.{BinaryOperator}
use Rattle.tree.specs.declared.operator.BinaryOperator.TheVariants.{LogicalOr, LogicalAnd, Equal, NotEqual, Less, LessOrEqual, Greater, GreaterOrEqual, Add, Subtract, Or, Xor, Multiply, Divide, Remainder, ShiftLeft, ShiftRight, And, AndNot}
use Rattle.tree.specs.declared.operator.UnaryOperator.{UnaryOperator}
use Rattle.tree.specs.declared.operator.UnaryOperator.TheVariants.{Plus, Negate, Not, Complement, Address, Receive, Tilde}
use Rattle.tree.specs.declared.operator.ChanDirection.TheVariants.{Both, Send, Receive as receive_only}
use Rattle.tree.specs.declared.operator.DeclKeyword.{DeclKeyword}
use Rattle.tree.specs.declared.operator.DeclKeyword.TheVariants.{Const, Var, «Type» as type_keyword}
use Rattle.tree.specs.Syntax.{Identifier, TypeName, Expression, expression_node, ExpressionForm, name_expression, basic_literal, function_literal, composite_literal, literal_value, key_value, parenthesized, selector_expression, index_expression, instance_expression, slice_expression, type_assertion, call_expression, star_expression, unary_expression, binary_expression, array_type, ellipsis_array_type, slice_type, map_type, channel_type, function_type, struct_type, interface_type, Expressions, no_expression, expression_and, OptionalExpression, missing_expression, present_expression, Signature, signature_of, Parameters, no_parameter, named_and, unnamed_and, name_alone_and, Fields, no_field, fields_and, embedded_and, element_and, method_and, Statement, statement_node, StatementForm, empty_statement, declaration_statement, labeled_statement, expression_statement, send_statement, increment_statement, decrement_statement, assignment, operator_assignment, define_statement, go_statement, defer_statement, return_statement, break_statement, continue_statement, goto_statement, fallthrough_statement, block_statement, if_statement, for_statement, range_assignment, range_definition, switch_statement, type_switch_statement, select_statement, Statements, no_statement, statement_and, OptionalStatement, missing_statement, present_statement, CaseClauses, no_case, case_and, CommunicationClauses, no_communication, communication_and, Declaration, declaration_of, Specs, no_spec, value_and, type_and, Block, Function, TopLevelDeclaration, function_declaration, general_declaration, ImportSpec, ImportDeclaration, SourceFile}
use Rattle.tree.specs.Depth.{expression_depth, statement_depth}
use Rattle.meaning.specs.Cursor.{GoText, Cursor, is_next, start_at}
use Rattle.meaning.specs.OperatorTokens.{can_begin_type}
use Rattle.meaning.specs.WellFormed.{operator_level, level, primary_level, unary_level, is_name, names_type, is_instance, is_type, is_constraint, is_call, has_named_item, end_constrained}
use Rattle.meaning.specs.TypeParameters.{is_no_index, is_identifier, begins_parameters, is_parameter, is_one_parameter}
use Rattle.meaning.specs.Grammar.{Owner, of_struct, of_interface, form_of, dot_text}
use Rattle.meaning.specs.Mentions.{is_one}
use Rattle.meaning.specs.declared.TheConstants.{MOST_DEPTH}
use Rattle.tree_reader.specs.Reading.{Read, ◌>>=◌, only_where, stands, behind, take, past, take_semicolon, behind_semicolon, skip_semicolons, steps, span_between, spanned, spanned_statement, word_between, read_identifier, read_optional_identifier, read_identifiers}

-- what an operator token before an operand is
abbrev pub unary_operator : TokenKind → Option UnaryOperator
unary_operator plus_token = Some Plus
unary_operator Minus = Some Negate
unary_operator Bang = Some Not
unary_operator Caret = Some Complement
unary_operator Ampersand = Some Address
unary_operator Arrow = Some Receive
unary_operator _ = None

-- what an operator token between two operands is
abbrev pub binary_operator : TokenKind → Option BinaryOperator
binary_operator logical_or_token = Some LogicalOr
binary_operator logical_and_token = Some LogicalAnd
binary_operator EqualEqual = Some Equal
binary_operator not_equal_token = Some NotEqual
binary_operator LessThan = Some Less
binary_operator less_or_equal_token = Some LessOrEqual
binary_operator GreaterThan = Some Greater
binary_operator greater_or_equal_token = Some GreaterOrEqual
binary_operator plus_token = Some Add
binary_operator Minus = Some Subtract
binary_operator Pipe = Some Or
binary_operator Caret = Some Xor
binary_operator Star = Some Multiply
binary_operator Slash = Some Divide
binary_operator Percent = Some Remainder
binary_operator shift_left_token = Some ShiftLeft
binary_operator shift_right_token = Some ShiftRight
binary_operator Ampersand = Some And
binary_operator and_not_token = Some AndNot
binary_operator _ = None

-- what the operator of an assignment token is
abbrev pub assigning_operator : TokenKind → Option BinaryOperator
assigning_operator PlusAssign = Some Add
assigning_operator MinusAssign = Some Subtract
assigning_operator PipeAssign = Some Or
assigning_operator CaretAssign = Some Xor
assigning_operator StarAssign = Some Multiply
assigning_operator SlashAssign = Some Divide
assigning_operator PercentAssign = Some Remainder
assigning_operator ShiftLeftAssign = Some ShiftLeft
assigning_operator ShiftRightAssign = Some ShiftRight
assigning_operator AmpersandAssign = Some And
assigning_operator AndNotAssign = Some AndNot
assigning_operator _ = None

abbrev pub literal_kind : TokenKind → Option BasicLitKind
literal_kind number_token = Some Number
literal_kind rune_token = Some Rune
literal_kind interpreted_string_token = Some InterpretedString
literal_kind raw_string_token = Some RawString
literal_kind _ = None

abbrev pub declaration_keyword : TokenKind → Option DeclKeyword
declaration_keyword ConstKeyword = Some Const
declaration_keyword VarKeyword = Some Var
declaration_keyword TypeKeyword = Some type_keyword
declaration_keyword _ = None

-- what such a function says of the next token
abbrev pub of_first : {A : Type 0} → (TokenKind → Option A) → List Token → Option A
of_first f [] = None
of_first f (t ∷ rest) = f t.kind

abbrev pub of_next : {A : Type 0} → (TokenKind → Option A) → Cursor → Option A
of_next f place = of_first f place.left

-- a string's token
abbrev pub is_string : TokenKind → Bool
is_string interpreted_string_token = true
is_string raw_string_token = true
is_string _ = false

-- what ends a statement that could go on with an expression
abbrev pub is_end : TokenKind → Bool
is_end Semicolon = true
is_end RightParenthesis = true
is_end RightBrace = true
is_end _ = false

-- what ends the statements of a block or a clause
abbrev pub ends_statements : TokenKind → Bool
ends_statements RightBrace = true
ends_statements CaseKeyword = true
ends_statements DefaultKeyword = true
ends_statements _ = false

-- what can follow the name of an embedded type
abbrev pub follows_embedded : TokenKind → Bool
follows_embedded Dot = true
follows_embedded Semicolon = true
follows_embedded RightParenthesis = true
follows_embedded RightBrace = true
follows_embedded interpreted_string_token = true
follows_embedded raw_string_token = true
follows_embedded _ = false

abbrev pub is_second : Edition → Bool
is_second First = false
is_second Second = true

-- the name of a type, or in the second edition an instance of it, which braces can make a composite literal
abbrev pub takes_braces : Edition → Expression → Bool
takes_braces edition e = names_type e || (is_second edition && (is_instance e && is_type e))

-- Names that were read as expressions.
abbrev pub form_identifier : Span → ExpressionForm → Option Identifier
form_identifier span (name_expression name) = Some record { text = name; span = span }
form_identifier span form = None

abbrev pub as_identifier : Expression → Option Identifier
as_identifier (expression_node form span) = form_identifier span form

abbrev pub as_identifiers : Expressions → Option (List Identifier)
as_identifiers no_expression = Some []
as_identifiers (expression_and e es) = do
  n ← as_identifier e
  ns ← as_identifiers es
  Some (n ∷ ns)

-- a name and what stands in brackets behind it, of an index
abbrev pub indexed_form : ExpressionForm → Option (Identifier × Expression)
indexed_form (index_expression e i) = do
  n ← as_identifier e
  Some (n, i)
indexed_form form = None

abbrev pub indexed : Expression → Option (Identifier × Expression)
indexed (expression_node form span) = indexed_form form

-- where the name of a type ends
abbrev pub behind_name : Cursor → Cursor
behind_name place = if stands Dot (behind place) then behind (behind (behind place)) else behind place

-- with these a constraint goes on behind a type's name
abbrev pub joins_terms : TokenKind → Bool
joins_terms LeftBracket = true
joins_terms Pipe = true
joins_terms _ = false

-- what stands here is more than the name of a type, which an interface embeds
abbrev pub is_no_name : Cursor → Bool
is_no_name place = not (stands identifier_kind place) || is_next joins_terms (behind_name place)

-- a name with an array's type, or an instance
abbrev pub item_of : Option Identifier → Expression → Parameters → Parameters
item_of None t = unnamed_and false t
item_of (Some n) t = named_and n false t

abbrev pub field_of : Option Identifier → Expression → Option Span → Span → Fields → Fields
field_of None t = element_and false t
field_of (Some n) t = fields_and (n ∷ []) t

-- brackets open that can be an index, and no type's
abbrev pub opens_index : Cursor → Bool
opens_index place = stands LeftBracket place && not (is_next is_no_index (behind place))

abbrev pub is_no_method : Option Parameters → Bool
is_no_method None = true
is_no_method (Some ps) = false

-- the only one of some expressions
abbrev pub single : Expressions → Option Expression
single (expression_and e no_expression) = Some e
single es = None

-- At this dot a type switch asks for the type of what stands before it.
abbrev pub is_guard : Cursor → Bool
is_guard place = stands LeftParenthesis (behind place) && stands TypeKeyword (behind (behind place))

-- In a list of parameters with an item that has both name and type, a type that is one name is a name alone, and it
-- is not the last one.
abbrev pub is_no_item : Parameters → Bool
is_no_item no_parameter = true
is_no_item ps = false

abbrev pub name_alone : Option Identifier → Expression → Parameters → Option Parameters
name_alone None t ps = Some (unnamed_and false t ps)
name_alone (Some n) t ps = only_where (not (is_no_item ps)) (Some (name_alone_and n ps))

abbrev pub with_names : Parameters → Option Parameters
with_names no_parameter = Some no_parameter
with_names (named_and n ellipsis t ps) = do
  more ← with_names ps
  Some (named_and n ellipsis t more)
with_names (unnamed_and true t ps) = do
  more ← with_names ps
  Some (unnamed_and true t more)
with_names (unnamed_and false t ps) = do
  more ← with_names ps
  name_alone (as_identifier t) t more
with_names (name_alone_and n ps) = None

abbrev pub settled : Parameters → Option Parameters
settled ps = if has_named_item ps then with_names ps else Some ps

abbrev pub value_fits : DeclKeyword → OptionalExpression → Expressions → Bool
value_fits Const missing_expression es = true
value_fits Const (present_expression t) no_expression = false
value_fits Const (present_expression t) (expression_and e es) = true
value_fits Var missing_expression no_expression = false
value_fits Var missing_expression (expression_and e es) = true
value_fits Var (present_expression t) es = true
value_fits type_keyword t es = false

-- what a clause of a `select` can wait for
abbrev pub is_communication : StatementForm → Bool
is_communication (send_statement c v) = true
is_communication (expression_statement e) = true
is_communication (assignment ls rs) = is_one rs
is_communication (define_statement ns rs) = is_one rs
is_communication form = false

-- How parts are read, and how deep they may be. In a header no composite literal of a bare type name is read; the
-- number is the least level of the expression that is read.
pub record Readers : Type 0 where
  pub most : ℕ
  pub read_expression : Bool → ℕ → Cursor → Read Expression
  pub read_type : Cursor → Read Expression
  -- an expression, or elements in braces
  pub read_value : Cursor → Read Expression
  pub read_statement : Cursor → Read Statement

abbrev pub no_readers : Readers
no_readers = record {
  most = 0;
  read_expression = λ header least place. None;
  read_type = λ place. None;
  read_value = λ place. None;
  read_statement = λ place. None;
}

-- A block's statements, and the span of its braces.
pub record Braced : Type 0 where
  pub statements : Statements
  pub braces : Span

module _ (text : GoText) (r : Readers) where
  abbrev pub read_any : Cursor → Read Expression
  read_any place = r.read_expression false 1 place

  -- expressions, each after a comma
  unfoldable pub read_more_expressions : Bool → ℕ → Cursor → Read Expressions
  read_more_expressions header zero place = None
  read_more_expressions header (suc n) place =
      if stands Comma place then (do
        first ← r.read_expression header 1 (behind place)
        more ← read_more_expressions header n first.1
        Some (expression_and first.0 more.0, more.1)
      ) else Some (no_expression, place)

  unfoldable pub read_expressions : Bool → Cursor → Read Expressions
  read_expressions header place = do
    first ← r.read_expression header 1 place
    more ← read_more_expressions header (steps first.1) first.1
    Some (expression_and first.0 more.0, more.1)

  -- an expression, where the test holds of the next token
  unfoldable pub read_expression_unless : TokenKind → Bool → Cursor → Read OptionalExpression
  read_expression_unless kind header place =
      if stands kind place then Some (missing_expression, place)
      else (do
        e ← r.read_expression header 1 place
        Some (present_expression e.0, e.1)
      )

  -- `key: value`, or `value`
  unfoldable pub read_element : Cursor → Read Expression
  read_element place = do
    first ← r.read_value place
    if stands Colon first.1 then (do
      value ← r.read_value (behind first.1)
      Some (spanned place (key_value first.0 value.0) value.1)
      ) else Some first

  -- elements up to a closing brace
  unfoldable pub read_elements : ℕ → Cursor → Read Expressions
  read_elements zero place = None
  read_elements (suc n) place =
      if stands RightBrace place then Some (no_expression, place)
      else (do
        first ← read_element place
        if stands Comma first.1 then (do
          more ← read_elements n (behind first.1)
          Some (expression_and first.0 more.0, more.1)
          ) else Some (expression_and first.0 no_expression, first.1)
      )

  unfoldable pub read_braced_elements : Cursor → Read Expressions
  read_braced_elements place = do
    inner ← take LeftBrace place
    es ← read_elements (steps inner) inner
    end ← take RightBrace es.1
    Some (es.0, end)

  -- arguments up to a closing bracket, and whether `...` stands after the last
  unfoldable pub read_arguments : ℕ → Cursor → Read (Expressions × Bool)
  read_arguments zero place = None
  read_arguments (suc n) place =
      if stands RightParenthesis place then Some ((no_expression, false), place)
      else (do
        first ← read_any place
        if stands Ellipsis first.1
            then Some ((expression_and first.0 no_expression, true), past Comma (behind first.1))
            else if stands Comma first.1 then (do
              more ← read_arguments n (behind first.1)
              Some ((expression_and first.0 more.0.0, more.0.1), more.1)
            ) else Some ((expression_and first.0 no_expression, false), first.1)
      )

  -- arguments of an instance, each behind a comma, with the comma behind the last one
  unfoldable pub read_more_arguments : ℕ → Cursor → Read Expressions
  read_more_arguments zero place = None
  read_more_arguments (suc n) place =
      if stands Comma place then (
      if stands RightBracket (behind place) then Some (no_expression, behind place)
      else (do
        first ← read_any (behind place)
        more ← read_more_arguments n first.1
        Some (expression_and first.0 more.0, more.1)
      )
      ) else Some (no_expression, place)

  unfoldable pub read_instance : Cursor → Expression → Expression → Cursor → Read Expression
  read_instance from e first place = do
    more ← read_more_arguments (steps place) place
    end ← take RightBracket more.1
    Some (spanned from (instance_expression e (expression_and first more.0)) end)

  -- `[index]`, or the bounds of a slice
  unfoldable pub read_slice : Cursor → Expression → OptionalExpression → Cursor → Read Expression
  read_slice from e low place = do
    high ← read_bound (behind place)
    most ← read_most high.1
    end ← take RightBracket most.1
    Some (spanned from (slice_expression e low high.0 most.0) end)
    where
      read_bound : Cursor → Read OptionalExpression
      read_bound at =
          if stands Colon at then Some (missing_expression, at) else read_expression_unless RightBracket false at

      read_most : Cursor → Read OptionalExpression
      read_most at =
          if stands Colon at then (do
            bound ← read_any (behind at)
            Some (present_expression bound.0, bound.1)
          ) else Some (missing_expression, at)

  unfoldable pub read_index : Cursor → Expression → Cursor → Read Expression
  read_index from e place = do
    low ← read_expression_unless Colon false (behind place)
    if stands Colon low.1
        then read_slice from e low.0 low.1
        else index_end low.0 low.1
    where
      index_end : OptionalExpression → Cursor → Read Expression
      index_end missing_expression at = None
      index_end (present_expression i) at =
          if is_second text.edition && stands Comma at then read_instance from e i at
          else (do
            end ← take RightBracket at
            Some (spanned from (index_expression e i) end)
          )

  -- no deeper than what is read here may be
  abbrev pub within : Expression × Cursor → Read Expression
  within e = only_where (nat_le (expression_depth e.0) r.most) (Some e)

  -- a name, as an expression
  abbrev pub name_at : Cursor → Expression
  name_at place = (spanned place (name_expression (word_between text place (behind place))) (behind place)).0

  -- a name with brackets behind it: where a type follows, the name and the type of an array, else an instance
  unfoldable pub read_indexed : Cursor → Read (Option Identifier × Expression)
  read_indexed place = do
    x ← read_index place (name_at place) (behind place)
    if is_next can_begin_type x.1 then (do
      n ← indexed x.0
      t ← r.read_type x.1
      a ← within (spanned (behind place) (array_type n.1 t.0) t.1)
      Some ((Some n.0, a.0), a.1)
      ) else (do
        t ← within x
        only_where (is_instance t.0 && is_type t.0) (Some ((None, t.0), t.1))
        )

  -- a term of a constraint
  unfoldable pub read_term : Cursor → Read Expression
  read_term place =
      if stands tilde_token place then (do
        t ← r.read_expression false unary_level (behind place)
        Some (spanned place (unary_expression Tilde t.0) t.1)
      ) else r.read_expression false unary_level place

  -- terms, each behind `|`
  unfoldable pub read_terms : Cursor → ℕ → Expression → Cursor → Read Expression
  read_terms from zero e place = None
  read_terms from (suc n) e place =
      if stands Pipe place then (do
        t ← read_term (behind place)
        read_terms from n (spanned from (binary_expression Or e t.0) t.1).0 t.1
      ) else Some (e, place)

  unfoldable pub read_constraint : Cursor → Read Expression
  read_constraint place = do
    t ← read_term place
    c ← read_terms place (steps t.1) t.0 t.1
    only_where (is_constraint c.0) (within c)

  -- a type parameter, before what follows it
  unfoldable pub read_type_parameter : Cursor → Read (Parameters → Parameters)
  read_type_parameter place = do
    n ← read_identifier text place
    if stands Comma n.1 then Some (name_alone_and n.0, n.1) else (do
      t ← read_constraint n.1
      Some (named_and n.0 false t.0, t.1)
      )

  -- type parameters up to a closing bracket
  unfoldable pub read_type_items : ℕ → Cursor → Read Parameters
  read_type_items zero place = None
  read_type_items (suc n) place =
      if stands RightBracket place then Some (no_parameter, place)
      else (do
        first ← read_type_parameter place
        if stands Comma first.1 then (do
          more ← read_type_items n (behind first.1)
          Some (first.0 more.0, more.1)
          ) else Some (first.0 no_parameter, first.1)
      )

  unfoldable pub read_type_parameters : Cursor → Read Parameters
  read_type_parameters place = do
    inner ← take LeftBracket place
    ps ← read_type_items (steps inner) inner
    end ← take RightBracket ps.1
    only_where (end_constrained ps.0) (Some (ps.0, end))

  -- an item of a list of parameters, before what follows it
  unfoldable pub read_item : Cursor → Read (Parameters → Parameters)
  read_item place =
      if is_second text.edition && (stands identifier_kind place && opens_index (behind place)) then (do
        t ← read_indexed place
        Some (item_of t.0.0 t.0.1, t.1)
      ) else if stands identifier_kind place
      && (stands Ellipsis (behind place) || is_next can_begin_type (behind place))
      then (do
        n ← read_identifier text place
        t ← r.read_type (past Ellipsis n.1)
        Some (named_and n.0 (stands Ellipsis n.1) t.0, t.1)
      ) else (do
        t ← r.read_type (past Ellipsis place)
        Some (unnamed_and (stands Ellipsis place) t.0, t.1)
      )

  -- items up to a closing bracket
  unfoldable pub read_items : ℕ → Cursor → Read Parameters
  read_items zero place = None
  read_items (suc n) place =
      if stands RightParenthesis place then Some (no_parameter, place)
      else (do
        first ← read_item place
        if stands Comma first.1 then (do
          more ← read_items n (behind first.1)
          Some (first.0 more.0, more.1)
          ) else Some (first.0 no_parameter, first.1)
      )

  unfoldable pub read_parameters : Cursor → Read Parameters
  read_parameters place = do
    inner ← take LeftParenthesis place
    ps ← read_items (steps inner) inner
    end ← take RightParenthesis ps.1
    named ← settled ps.0
    Some (named, end)

  unfoldable pub read_signature : Cursor → Read Signature
  read_signature place = do
    ps ← read_parameters place
    if stands LeftParenthesis ps.1 then (do
      rs ← read_parameters ps.1
      Some (signature_of ps.0 rs.0 true, rs.1)
      ) else if is_next can_begin_type ps.1 then (do
        t ← r.read_type ps.1
        Some (signature_of ps.0 (unnamed_and false t.0 no_parameter) false, t.1)
        ) else Some (signature_of ps.0 no_parameter false, ps.1)

  unfoldable pub read_type_name : Cursor → Read TypeName
  read_type_name place = do
    first ← read_identifier text place
    if stands Dot first.1 then (do
      second ← read_identifier text (behind first.1)
      Some (record { qualifier = Some first.0; name = second.0; span = span_between place second.1 }, second.1)
      ) else Some (record { qualifier = None; name = first.0; span = span_between place first.1 }, first.1)

  -- a tag, if there is one
  abbrev pub read_tag : Cursor → Option Span × Cursor
  read_tag place =
      if is_next is_string place then (Some (span_between place (behind place)), behind place) else (None, place)

  -- a line of a struct type, before what follows it
  unfoldable pub read_struct_field : Cursor → Read (Fields → Fields)
  read_struct_field place =
      if is_second text.edition && (stands identifier_kind place && opens_index (behind place)) then (do
        t ← read_indexed place
        let tag = read_tag t.1
        Some (field_of t.0.0 t.0.1 tag.0 (span_between place tag.1), tag.1)
      ) else if stands Star place || (stands identifier_kind place && is_next follows_embedded (behind place)) then (do
        n ← read_type_name (past Star place)
        if is_second text.edition && stands LeftBracket n.1 then (do
          t ← r.read_type (past Star place)
          let tag = read_tag t.1
          only_where (is_instance t.0)
              (Some (element_and (stands Star place) t.0 tag.0 (span_between place tag.1), tag.1))
          ) else (do
            let tag = read_tag n.1
            Some (embedded_and (stands Star place) n.0 tag.0 (span_between place tag.1), tag.1)
            )
      ) else (do
        ns ← read_identifiers text place
        t ← r.read_type ns.1
        let tag = read_tag t.1
        Some (fields_and ns.0 t.0 tag.0 (span_between place tag.1), tag.1)
      )

  -- a line of an interface type, before what follows it
  unfoldable pub read_interface_field : Cursor → Read (Fields → Fields)
  read_interface_field place =
      if stands identifier_kind place && stands LeftParenthesis (behind place) then (do
        n ← read_identifier text place
        signature ← read_signature n.1
        Some (method_and n.0 signature.0 (span_between place signature.1), signature.1)
      ) else if is_second text.edition && is_no_name place then (do
        c ← read_constraint place
        only_where (not (names_type c.0)) (Some (element_and false c.0 None (span_between place c.1), c.1))
      ) else (do
        n ← read_type_name place
        Some (embedded_and false n.0 None (span_between place n.1), n.1)
      )

  abbrev pub read_field : Owner → Cursor → Read (Fields → Fields)
  read_field of_struct place = read_struct_field place
  read_field of_interface place = read_interface_field place

  unfoldable pub read_fields : Owner → ℕ → Cursor → Read Fields
  read_fields owner zero place = None
  read_fields owner (suc n) place =
      if stands RightBrace place then Some (no_field, place)
      else (do
        first ← read_field owner place
        end ← take_semicolon first.1
        more ← read_fields owner n end
        Some (first.0 more.0, more.1)
      )

  unfoldable pub read_braced_fields : Owner → Cursor → Read Fields
  read_braced_fields owner place = do
    inner ← take LeftBrace place
    fs ← read_fields owner (steps inner) inner
    end ← take RightBrace fs.1
    Some (fs.0, end)

  -- statements up to a closing brace or the next clause
  unfoldable pub read_statements : ℕ → Cursor → Read Statements
  read_statements zero place = None
  read_statements (suc n) place =
      let first = skip_semicolons place in
      if is_next ends_statements first then Some (no_statement, first)
      else (do
        s ← r.read_statement first
        end ← take_semicolon s.1
        more ← read_statements n end
        Some (statement_and s.0 more.0, more.1)
      )

  unfoldable pub read_block : Cursor → Read Braced
  read_block place = do
    inner ← take LeftBrace place
    ss ← read_statements (steps inner) inner
    end ← take RightBrace ss.1
    Some (record { statements = ss.0; braces = span_between place end }, end)

  -- `[]T`, `[...]T`, `[n]T`
  unfoldable pub read_bracket_type : Cursor → Read Expression
  read_bracket_type place =
      let inner = behind place in
      if stands RightBracket inner then (do
        t ← r.read_type (behind inner)
        Some (spanned place (slice_type t.0) t.1)
      ) else if stands Ellipsis inner then (do
        end ← take RightBracket (behind inner)
        t ← r.read_type end
        Some (spanned place (ellipsis_array_type t.0) t.1)
      ) else (do
        n ← read_any inner
        end ← take RightBracket n.1
        t ← r.read_type end
        Some (spanned place (array_type n.0 t.0) t.1)
      )

  unfoldable pub read_map_type : Cursor → Read Expression
  read_map_type place = do
    inner ← take LeftBracket (behind place)
    k ← r.read_type inner
    end ← take RightBracket k.1
    t ← r.read_type end
    Some (spanned place (map_type k.0 t.0) t.1)

  unfoldable pub read_channel_type : Cursor → Read Expression
  read_channel_type place =
      let inner = behind place in
      if stands Arrow inner then (do
        t ← r.read_type (behind inner)
        Some (spanned place (channel_type Send t.0) t.1)
      ) else (do
        t ← r.read_type inner
        Some (spanned place (channel_type Both t.0) t.1)
      )

  -- a type that begins with a bracket or a keyword, but for `func`
  unfoldable pub read_literal_type : Cursor → Read Expression
  read_literal_type place =
      if stands LeftBracket place then read_bracket_type place
      else if stands MapKeyword place then read_map_type place
      else if stands ChanKeyword place then read_channel_type place
      else if stands StructKeyword place then (do
        fs ← read_braced_fields of_struct (behind place)
        Some (spanned place (struct_type fs.0) fs.1)
      ) else (do
        word ← take InterfaceKeyword place
        fs ← read_braced_fields of_interface word
        Some (spanned place (interface_type fs.0) fs.1)
      )

  -- of specs of constants and variables
  unfoldable pub read_value_spec : DeclKeyword → Cursor → Read (Specs → Specs)
  read_value_spec keyword place = do
    ns ← read_identifiers text place
    t ← read_spec_type ns.1
    es ← read_spec_values t.1
    only_where (value_fits keyword t.0 es.0) (Some (value_and ns.0 t.0 es.0 (span_between place es.1), es.1))
    where
      read_spec_type : Cursor → Read OptionalExpression
      read_spec_type place =
          if is_next can_begin_type place then (do
            t ← r.read_type place
            Some (present_expression t.0, t.1)
          ) else Some (missing_expression, place)

      read_spec_values : Cursor → Read Expressions
      read_spec_values place =
          if stands Assign place then read_expressions false (behind place) else Some (no_expression, place)

  -- a type, or `=` and a type
  unfoldable pub read_plain_type : Cursor → Identifier → Parameters → Cursor → Read (Specs → Specs)
  read_plain_type from n ps place = do
    t ← r.read_type (past Assign place)
    Some (type_and n ps (stands Assign place) t.0 (span_between from t.1), t.1)

  unfoldable pub read_generic_type : Cursor → Identifier → Cursor → Read (Specs → Specs)
  read_generic_type from n place = do
    ps ← read_type_parameters place
    only_where (begins_parameters place.left || is_one_parameter ps.0) (read_plain_type from n ps.0 ps.1)

  -- a type that begins with the length of an array, unless this is read as a type parameter
  unfoldable pub read_length_or_parameter : Cursor → Identifier → Cursor → Read (Specs → Specs)
  read_length_or_parameter from n place = do
    e ← read_any (behind place)
    if is_parameter e.0 then read_generic_type from n place else (do
      end ← take RightBracket e.1
      t ← r.read_type end
      a ← within (spanned place (array_type e.0 t.0) t.1)
      Some (type_and n no_parameter false a.0 (span_between from a.1), a.1)
      )

  unfoldable pub read_type_spec : Cursor → Read (Specs → Specs)
  read_type_spec place = do
    n ← read_identifier text place
    if is_second text.edition && (stands LeftBracket n.1 && is_next is_identifier (behind n.1))
        then if begins_parameters n.1.left
        then read_generic_type place n.0 n.1
        else read_length_or_parameter place n.0 n.1
        else read_plain_type place n.0 no_parameter n.1

  -- a spec, before what follows it
  abbrev pub read_spec : DeclKeyword → Cursor → Read (Specs → Specs)
  read_spec type_keyword place = read_type_spec place
  read_spec keyword place = read_value_spec keyword place

  -- specs up to a closing bracket
  unfoldable pub read_specs : DeclKeyword → ℕ → Cursor → Read Specs
  read_specs keyword zero place = None
  read_specs keyword (suc n) place =
      if stands RightParenthesis place then Some (no_spec, place)
      else (do
        first ← read_spec keyword place
        end ← take_semicolon first.1
        more ← read_specs keyword n end
        Some (first.0 more.0, more.1)
      )

  unfoldable pub read_declaration : DeclKeyword → Cursor → Read Declaration
  read_declaration keyword place =
      let inner = behind place in
      if stands LeftParenthesis inner then (do
        specs ← read_specs keyword (steps (behind inner)) (behind inner)
        end ← take RightParenthesis specs.1
        Some (declaration_of keyword specs.0 true (span_between place end), end)
      ) else (do
        spec ← read_spec keyword inner
        Some (declaration_of keyword (spec.0 no_spec) false (span_between place spec.1), spec.1)
      )

-- How a node is read whose parts may be `below` deep.
module _ (text : GoText) (r : Readers) (below : ℕ) where
  -- a node that grows around what was read already
  abbrev pub around : Expression → Read Expression → Read Expression
  around e grown = only_where (nat_le (expression_depth e) below) grown

  unfoldable pub read_function : Cursor → Read Expression
  read_function place = do
    signature ← read_signature text r (behind place)
    if stands LeftBrace signature.1 then (do
      body ← read_block text r signature.1
      Some (spanned place (function_literal signature.0 body.0.statements body.0.braces) body.1)
      ) else Some (spanned place (function_type signature.0) signature.1)

  -- a literal's type, and its elements where they follow
  unfoldable pub read_typed : Cursor → Read Expression
  read_typed place = do
    t ← read_literal_type text r place
    if stands LeftBrace t.1 then (do
      es ← read_braced_elements text r t.1
      around t.0 (Some (spanned place (composite_literal t.0 es.0) es.1))
      ) else Some t

  unfoldable pub read_operand : Cursor → Read Expression
  read_operand place =
      if stands identifier_kind place
      then Some (spanned place (name_expression (word_between text place (behind place))) (behind place))
      else if stands LeftParenthesis place then (do
        e ← read_any text r (behind place)
        end ← take RightParenthesis e.1
        Some (spanned place (parenthesized e.0) end)
      ) else if stands FuncKeyword place then read_function place
      else read_literal (of_next literal_kind place)
    where
      read_literal : Option BasicLitKind → Read Expression
      read_literal (Some kind) = Some (spanned place (basic_literal kind) (behind place))
      read_literal None = read_typed place

  unfoldable pub read_call : Cursor → Expression → Cursor → Read Expression
  read_call from e place = do
    es ← read_arguments text r (steps (behind place)) (behind place)
    end ← take RightParenthesis es.1
    Some (spanned from (call_expression e es.0.0 es.0.1) end)

  unfoldable pub read_assertion : Cursor → Expression → Cursor → Read Expression
  read_assertion from e place = do
    t ← r.read_type (behind (behind place))
    end ← take RightParenthesis t.1
    Some (spanned from (type_assertion e t.0) end)

  unfoldable pub read_selector : Cursor → Expression → Cursor → Read Expression
  read_selector from e place = do
    n ← read_identifier text (behind place)
    Some (spanned from (selector_expression e n.0) n.1)

  unfoldable pub read_composite : Cursor → Expression → Cursor → Read Expression
  read_composite from t place = do
    es ← read_braced_elements text r place
    Some (spanned from (composite_literal t es.0) es.1)

  -- the next part of a primary expression that began at `from`, or nothing where it ends
  abbrev pub read_suffix : Bool → Cursor → Expression → Cursor → Option (Read Expression)
  read_suffix header from e place =
      if stands Dot place then (
      if is_guard place then None
      else if stands LeftParenthesis (behind place) then Some (read_assertion from e place)
      else Some (read_selector from e place)
      ) else if stands LeftBracket place then Some (read_index text r from e place)
      else if stands LeftParenthesis place then Some (read_call from e place)
      else if stands LeftBrace place && (not header && takes_braces text.edition e)
      then Some (read_composite from e place)
      else None

  -- what follows, up to where the primary expression ends
  abbrev pub go_on : (Expression → Cursor → Read Expression)
      → Expression
      → Cursor
      → Option (Read Expression)
      → Read Expression
  go_on more e place None = Some (e, place)
  go_on more e place (Some grown) = do
    g ← around e grown
    more g.0 g.1

  unfoldable pub read_suffixes : Bool → Cursor → ℕ → Expression → Cursor → Read Expression
  read_suffixes header from zero e place = None
  read_suffixes header from (suc n) e place =
      go_on (read_suffixes header from n) e place (read_suffix header from e place)

  unfoldable pub read_primary : Bool → Cursor → Read Expression
  read_primary header place = do
    e ← read_operand place
    read_suffixes header place (steps e.1) e.0 e.1

  unfoldable pub read_unary : Bool → Cursor → Read Expression
  read_unary header place =
      if stands Star place then (do
        e ← r.read_expression header unary_level (behind place)
        Some (spanned place (star_expression e.0) e.1)
      ) else with_operator (of_next unary_operator place)
    where
      with_operator : Option UnaryOperator → Read Expression
      with_operator None = read_primary header place
      with_operator (Some op) = do
        e ← r.read_expression header unary_level (behind place)
        Some (spanned place (unary_expression op e.0) e.1)

  -- the next operator of at least this level and its right operand, or nothing
  abbrev pub read_operator : Bool → ℕ → Cursor → Expression → Cursor → Option BinaryOperator → Option (Read Expression)
  read_operator header least from e place None = None
  read_operator header least from e place (Some op) =
      if nat_le least (operator_level op) then Some (do
        right ← r.read_expression header (suc (operator_level op)) (behind place)
        Some (spanned from (binary_expression op e right.0) right.1)
      ) else None

  unfoldable pub read_operators : Bool → ℕ → Cursor → ℕ → Expression → Cursor → Read Expression
  read_operators header least from zero e place = None
  read_operators header least from (suc n) e place =
      go_on (read_operators header least from n) e place
      (read_operator header least from e place (of_next binary_operator place))

  unfoldable pub read_expression_of : Bool → ℕ → Cursor → Read Expression
  read_expression_of header least place =
      if nat_le primary_level least then read_primary header place
      else if nat_le unary_level least then read_unary header place
      else (do
        e ← read_unary header place
        read_operators header least place (steps e.1) e.0 e.1
      )

  unfoldable pub read_value_of : Cursor → Read Expression
  read_value_of place =
      if stands LeftBrace place then (do
        es ← read_braced_elements text r place
        Some (spanned place (literal_value es.0) es.1)
      ) else read_expression_of false 1 place

  -- the brackets of an instance, where they follow a type's name
  unfoldable pub read_type_arguments : Cursor → Expression → Cursor → Read Expression
  read_type_arguments from e place =
      if is_second text.edition && stands LeftBracket place then (do
        t ← around e (read_index text r from e place)
        only_where (is_instance t.0 && is_type t.0) (Some t)
      ) else Some (e, place)

  -- a type's name, perhaps of another package, and perhaps an instance of it
  unfoldable pub read_named_type : Cursor → Read Expression
  read_named_type place =
      let end = behind place in
      let name = spanned place (name_expression (word_between text place end)) end in
      if stands Dot end then (do
        t ← around name.0 (read_selector place name.0 end)
        read_type_arguments place t.0 t.1
      ) else read_type_arguments place name.0 name.1

  unfoldable pub read_type_of : Cursor → Read Expression
  read_type_of place =
      if stands identifier_kind place then read_named_type place
      else if stands Star place then (do
        t ← r.read_type (behind place)
        Some (spanned place (star_expression t.0) t.1)
      ) else if stands LeftParenthesis place then (do
        t ← r.read_type (behind place)
        end ← take RightParenthesis t.1
        Some (spanned place (parenthesized t.0) end)
      ) else if stands Arrow place then (do
        word ← take ChanKeyword (behind place)
        t ← r.read_type word
        Some (spanned place (channel_type receive_only t.0) t.1)
      ) else if stands FuncKeyword place then (do
        signature ← read_signature text r (behind place)
        Some (spanned place (function_type signature.0) signature.1)
      ) else read_literal_type text r place

  -- a simple statement that begins with these expressions
  unfoldable pub read_simple_after : Bool → Cursor → Expressions → Cursor → Read Statement
  read_simple_after header from es place =
      if stands Define place then (do
        ns ← as_identifiers es
        rs ← read_expressions text r header (behind place)
        Some (spanned_statement from (define_statement ns rs.0) rs.1)
      ) else if stands Assign place then (do
        rs ← read_expressions text r header (behind place)
        Some (spanned_statement from (assignment es rs.0) rs.1)
      ) else (do
        e ← single es
        read_simple_of e (of_next assigning_operator place)
      )
    where
      read_simple_of : Expression → Option BinaryOperator → Read Statement
      read_simple_of e (Some op) = do
        right ← r.read_expression header 1 (behind place)
        Some (spanned_statement from (operator_assignment op e right.0) right.1)
      read_simple_of e None =
          if stands Arrow place then (do
            v ← r.read_expression header 1 (behind place)
            Some (spanned_statement from (send_statement e v.0) v.1)
          ) else if stands Increment place then Some (spanned_statement from (increment_statement e) (behind place))
          else if stands Decrement place then Some (spanned_statement from (decrement_statement e) (behind place))
          else Some (spanned_statement from (expression_statement e) place)

  unfoldable pub read_simple : Bool → Cursor → Read Statement
  read_simple header place = do
    es ← read_expressions text r header place
    read_simple_after header place es.0 es.1

  -- a statement that is a part of a statement
  abbrev pub as_part : Statement → Option OptionalStatement
  as_part s = only_where (nat_le (statement_depth s) below) (Some (present_statement s))

  abbrev pub expression_of : StatementForm → Option Expression
  expression_of (expression_statement e) = Some e
  expression_of form = None

  abbrev pub statement_expression : Statement → Option Expression
  statement_expression (statement_node form span) = expression_of form

-- What was read of a header: a statement and its semicolon, or what stands there without one.
pub record Header : Type 0 where
  pub init : OptionalStatement
  pub has_semicolon : Bool
  pub first : Option Statement

-- What a `switch` looks at: a value or nothing, or the type of a value.
pub data Guard : Type 0 where
  of_value : OptionalExpression → Guard
  of_type : Option Identifier → Expression → Guard

-- the operand of a type switch, which is a primary expression, and the name before it
abbrev pub primary_guard : Option Identifier → Expression → Option Guard
primary_guard n e = only_where (nat_le primary_level (level e)) (Some (of_type n e))

abbrev pub type_guard : StatementForm → Option Guard
type_guard (expression_statement e) = primary_guard None e
type_guard (define_statement (n ∷ []) (expression_and e no_expression)) = primary_guard (Some n) e
type_guard form = None

-- How a statement is read whose parts may be `below` deep.
module _ (text : GoText) (r : Readers) (below : ℕ) where
  unfoldable pub read_header : Cursor → Read Header
  read_header place =
      if stands Semicolon place
      then Some (record { init = missing_statement; has_semicolon = true; first = None }, behind_semicolon place)
      else (do
        s ← read_simple text r below true place
        if stands Semicolon s.1
            then (do
              part ← as_part text r below s.0
              Some (record { init = part; has_semicolon = true; first = None }, behind_semicolon s.1)
            )
            else Some (record { init = missing_statement; has_semicolon = false; first = Some s.0 }, s.1)
      )

  -- a condition, which may have been read as a statement
  unfoldable pub read_condition : Option Statement → Cursor → Read Expression
  read_condition None place = r.read_expression true 1 place
  read_condition (Some s) place = do
    e ← statement_expression text r below s
    Some (e, place)

  -- `else` and what follows, if it stands there
  unfoldable pub read_else : Cursor → Read OptionalStatement
  read_else place =
      if stands ElseKeyword place then (
      if stands IfKeyword (behind place) then (do
        s ← r.read_statement (behind place)
        Some (present_statement s.0, s.1)
      ) else (do
        b ← read_block text r (behind place)
        let s = spanned_statement (behind place) (block_statement b.0.statements b.0.braces) b.1
        Some (present_statement s.0, s.1)
      )
      ) else Some (missing_statement, place)

  unfoldable pub read_if : Cursor → Read Statement
  read_if place = do
    header ← read_header (behind place)
    c ← read_condition header.0.first header.1
    b ← read_block text r c.1
    otherwise ← read_else b.1
    Some (spanned_statement place
        (if_statement header.0.init header.0.has_semicolon c.0 b.0.statements b.0.braces otherwise.0) otherwise.1)

  -- a loop's block, after its header
  unfoldable pub read_loop : Cursor → (Statements → Span → StatementForm) → Cursor → Read Statement
  read_loop from form place = do
    b ← read_block text r place
    Some (spanned_statement from (form b.0.statements b.0.braces) b.1)

  -- the statement after a loop's second semicolon, or none before its block
  abbrev pub read_post : Cursor → Read OptionalStatement
  read_post place =
      if stands LeftBrace place then Some (missing_statement, place)
      else (do
        s ← read_simple text r below true place
        part ← as_part text r below s.0
        Some (part, s.1)
      )

  -- `condition; post` and the block, after the first semicolon
  unfoldable pub read_clauses : Cursor → OptionalStatement → Cursor → Read Statement
  read_clauses from init place = do
    c ← read_expression_unless text r Semicolon true place
    end ← take Semicolon c.1
    post ← read_post (behind_semicolon c.1)
    read_loop from (for_statement init c.0 post.0 true) post.1

  unfoldable pub read_range : Cursor → (Expression → Statements → Span → StatementForm) → Cursor → Read Statement
  read_range from form place = do
    e ← r.read_expression true 1 (behind place)
    read_loop from (form e.0) e.1

  -- a loop whose header begins with these expressions
  unfoldable pub read_for_after : Cursor → Cursor → Expressions → Cursor → Read Statement
  read_for_after from start es place =
      if stands Define place && stands RangeKeyword (behind place) then (do
        ns ← as_identifiers es
        read_range from (range_definition ns) (behind place)
      ) else if stands Assign place && stands RangeKeyword (behind place)
      then read_range from (range_assignment es) (behind place)
      else (do
        s ← read_simple_after text r below true start es place
        if stands Semicolon s.1
            then (do
              part ← as_part text r below s.0
              read_clauses from part (behind_semicolon s.1)
            )
            else (do
              e ← statement_expression text r below s.0
              read_loop from (for_statement missing_statement (present_expression e) missing_statement false) s.1
            )
      )

  unfoldable pub read_for : Cursor → Read Statement
  read_for place =
      let start = behind place in
      if stands LeftBrace start
      then read_loop place (for_statement missing_statement missing_expression missing_statement false) start
      else if stands RangeKeyword start then read_range place (range_assignment no_expression) start
      else if stands Semicolon start then read_clauses place missing_statement (behind_semicolon start)
      else (do
        es ← read_expressions text r true start
        read_for_after place start es.0 es.1
      )

  -- the expressions of a clause, none of `default`
  abbrev pub read_case_head : Cursor → Read Expressions
  read_case_head place =
      if stands DefaultKeyword place then Some (no_expression, behind place)
      else (do
        word ← take CaseKeyword place
        read_expressions text r false word
      )

  -- the clauses of a `switch`, up to its closing brace
  unfoldable pub read_cases : ℕ → Cursor → Read CaseClauses
  read_cases zero place = None
  read_cases (suc n) place =
      if stands RightBrace place then Some (no_case, place)
      else (do
        es ← read_case_head place
        inner ← take Colon es.1
        ss ← read_statements text r (steps inner) inner
        more ← read_cases n ss.1
        Some (case_and es.0 ss.0 (span_between place ss.1) more.0, more.1)
      )

  -- what a clause of a `select` waits for
  unfoldable pub read_communication : Cursor → Read OptionalStatement
  read_communication place = do
    s ← read_simple text r below false place
    part ← as_part text r below s.0
    only_where (is_communication (form_of s.0)) (Some (part, s.1))

  abbrev pub read_communication_head : Cursor → Read OptionalStatement
  read_communication_head place =
      if stands DefaultKeyword place then Some (missing_statement, behind place)
      else (do
        word ← take CaseKeyword place
        read_communication word
      )

  -- the clauses of a `select`, up to its closing brace
  unfoldable pub read_communications : ℕ → Cursor → Read CommunicationClauses
  read_communications zero place = None
  read_communications (suc n) place =
      if stands RightBrace place then Some (no_communication, place)
      else (do
        c ← read_communication_head place
        inner ← take Colon c.1
        ss ← read_statements text r (steps inner) inner
        more ← read_communications n ss.1
        Some (communication_and c.0 ss.0 (span_between place ss.1) more.0, more.1)
      )

  -- what a header's statement without a semicolon says of what a `switch` looks at
  unfoldable pub read_guard : Statement → Cursor → Read Guard
  read_guard s place =
      if stands Dot place then (do
        guard ← type_guard (form_of s)
        inner ← take LeftParenthesis (behind place)
        word ← take TypeKeyword inner
        end ← take RightParenthesis word
        Some (guard, end)
      ) else (do
        e ← statement_expression text r below s
        Some (of_value (present_expression e), place)
      )

  -- what a `switch` looks at, after the first part of its header
  unfoldable pub read_switch_guard : Option Statement → Cursor → Read Guard
  read_switch_guard (Some s) place = read_guard s place
  read_switch_guard None place =
      if stands LeftBrace place then Some (of_value missing_expression, place)
      else (do
        s ← read_simple text r below true place
        read_guard s.0 s.1
      )

  abbrev pub switch_form : Header → Guard → CaseClauses → StatementForm
  switch_form header (of_value tag) cs = switch_statement header.init header.has_semicolon tag cs
  switch_form header (of_type n e) cs = type_switch_statement header.init header.has_semicolon n e cs

  abbrev pub no_header : Header
  no_header = record { init = missing_statement; has_semicolon = false; first = None }

  abbrev pub read_switch_header : Cursor → Read Header
  read_switch_header place = if stands LeftBrace place then Some (no_header, place) else read_header place

  unfoldable pub read_switch : Cursor → Read Statement
  read_switch place = do
    header ← read_switch_header (behind place)
    guard ← read_switch_guard header.0.first header.1
    inner ← take LeftBrace guard.1
    cs ← read_cases (steps inner) inner
    end ← take RightBrace cs.1
    Some (spanned_statement place (switch_form header.0 guard.0 cs.0) end)

  unfoldable pub read_select : Cursor → Read Statement
  read_select place = do
    inner ← take LeftBrace (behind place)
    cs ← read_communications (steps inner) inner
    end ← take RightBrace cs.1
    Some (spanned_statement place (select_statement cs.0) end)

  abbrev pub read_after_label : Cursor → Read Statement
  read_after_label place =
      if is_next is_end place
      then only_where (nat_le 1 below)
      (Some (statement_node empty_statement record { start = place.end; end = place.end }, place))
      else r.read_statement place

  -- a label and its statement, which may be empty
  unfoldable pub read_labeled : Cursor → Read Statement
  read_labeled place = do
    n ← read_identifier text place
    let inner = behind n.1
    s ← read_after_label inner
    Some (spanned_statement place (labeled_statement n.0 s.0) s.1)

  -- `go` and `defer`, which take a call
  unfoldable pub read_started : (Expression → StatementForm) → Cursor → Read Statement
  read_started form place = do
    e ← r.read_expression false primary_level (behind place)
    only_where (is_call e.0) (Some (spanned_statement place (form e.0) e.1))

  unfoldable pub read_return : Cursor → Read Statement
  read_return place =
      let inner = behind place in
      if is_next is_end inner then Some (spanned_statement place (return_statement no_expression) inner)
      else (do
        es ← read_expressions text r false inner
        Some (spanned_statement place (return_statement es.0) es.1)
      )

  -- `break` and `continue`, perhaps with a label
  unfoldable pub read_branch : (Option Identifier → StatementForm) → Cursor → Read Statement
  read_branch form place = do
    n ← read_optional_identifier text (behind place)
    Some (spanned_statement place (form n.0) n.1)

  unfoldable pub read_goto : Cursor → Read Statement
  read_goto place = do
    n ← read_identifier text (behind place)
    Some (spanned_statement place (goto_statement n.0) n.1)

  unfoldable pub read_block_statement : Cursor → Read Statement
  read_block_statement place = do
    b ← read_block text r place
    Some (spanned_statement place (block_statement b.0.statements b.0.braces) b.1)

  -- a statement that begins with no word for a declaration
  unfoldable pub read_other_statement : Cursor → Read Statement
  read_other_statement place =
      if stands identifier_kind place && stands Colon (behind place) then read_labeled place
      else if stands LeftBrace place then read_block_statement place
      else if stands IfKeyword place then read_if place
      else if stands ForKeyword place then read_for place
      else if stands SwitchKeyword place then read_switch place
      else if stands SelectKeyword place then read_select place
      else if stands ReturnKeyword place then read_return place
      else if stands GoKeyword place then read_started go_statement place
      else if stands DeferKeyword place then read_started defer_statement place
      else if stands BreakKeyword place then read_branch break_statement place
      else if stands ContinueKeyword place then read_branch continue_statement place
      else if is_second text.edition && stands GotoKeyword place then read_goto place
      else if is_second text.edition && stands FallthroughKeyword place
      then Some (spanned_statement place fallthrough_statement (behind place))
      else read_simple text r below false place

  unfoldable pub read_statement_of : Cursor → Read Statement
  read_statement_of place = read_by (of_next declaration_keyword place)
    where
      read_by : Option DeclKeyword → Read Statement
      read_by None = read_other_statement place
      read_by (Some keyword) = do
        d ← read_declaration text r keyword place
        Some (spanned_statement place (declaration_statement d.0) d.1)

module _ (text : GoText) where
  -- how what may be this deep is read
  unfoldable pub readers : ℕ → Readers
  readers zero = no_readers
  readers (suc below) =
      let r = readers below in
      record {
        most = suc below;
        read_expression = read_expression_of text r below;
        read_type = read_type_of text r below;
        read_value = read_value_of text r below;
        read_statement = read_statement_of text r below;
      }

  -- an import's name, if there is one, or a dot
  unfoldable pub read_import_name : Cursor → Read (Option Identifier)
  read_import_name place =
      if is_second text.edition && stands Dot place
      then Some (Some record { text = dot_text; span = span_between place (behind place) }, behind place)
      else read_optional_identifier text place

  unfoldable pub read_import_spec : Cursor → Read ImportSpec
  read_import_spec place = do
    n ← read_import_name place
    let end = behind n.1
    only_where (is_next is_string n.1) (Some (
      record {
        name = n.0;
        path = slice_range text.bytes (start_at n.1 + 1) (end.end - 1);
        path_span = span_between n.1 end;
        span = span_between place end;
      },
      end,
    ))

  unfoldable pub read_import_specs : ℕ → Cursor → Read (List ImportSpec)
  read_import_specs zero place = None
  read_import_specs (suc n) place =
      if stands RightParenthesis place then Some ([], place)
      else (do
        first ← read_import_spec place
        end ← take_semicolon first.1
        more ← read_import_specs n end
        Some (first.0 ∷ more.0, more.1)
      )

  unfoldable pub read_import : Cursor → Read ImportDeclaration
  read_import place =
      let inner = behind place in
      if stands LeftParenthesis inner then (do
        specs ← read_import_specs (steps (behind inner)) (behind inner)
        end ← take RightParenthesis specs.1
        Some (record { specs = specs.0; is_grouped = true; span = span_between place end }, end)
      ) else (do
        spec ← read_import_spec inner
        Some (record { specs = spec.0 ∷ []; is_grouped = false; span = span_between place spec.1 }, spec.1)
      )

  -- imports, each with its semicolon
  unfoldable pub read_imports : ℕ → Cursor → Read (List ImportDeclaration)
  read_imports zero place = None
  read_imports (suc n) place =
      if stands ImportKeyword place then (do
        first ← read_import place
        end ← take_semicolon first.1
        more ← read_imports n end
        Some (first.0 ∷ more.0, more.1)
      ) else Some ([], place)

  -- no token is left
  abbrev pub is_over : Cursor → Bool
  is_over place = is_none_left place.left
    where
      is_none_left : List Token → Bool
      is_none_left [] = true
      is_none_left (t ∷ rest) = false

-- A file with this limit of depth, and what it declares.
module _ (text : GoText) (most : ℕ) where
  abbrev pub top : Readers
  top = readers text most

  unfoldable pub read_receiver_within : Cursor → Read (Option Parameters)
  read_receiver_within place =
      if stands LeftParenthesis place then (do
        ps ← read_parameters text top place
        Some (Some ps.0, ps.1)
      ) else Some (None, place)

  unfoldable pub read_body_within : Cursor → Read (Option Block)
  read_body_within place =
      if stands LeftBrace place then (do
        b ← read_block text top place
        Some (Some record { statements = b.0.statements; braces = b.0.braces }, b.1)
      ) else Some (None, place)

  -- type parameters, which no method has
  unfoldable pub read_function_parameters : Option Parameters → Cursor → Read Parameters
  read_function_parameters receiver place =
      if is_second text.edition && (is_no_method receiver && stands LeftBracket place)
      then read_type_parameters text top place
      else Some (no_parameter, place)

  unfoldable pub read_function_declaration_within : Cursor → Read Function
  read_function_declaration_within place = do
    receiver ← read_receiver_within (behind place)
    n ← read_identifier text receiver.1
    ps ← read_function_parameters receiver.0 n.1
    signature ← read_signature text top ps.1
    body ← read_body_within signature.1
    Some (
      record {
        receiver = receiver.0;
        name = n.0;
        type_parameters = ps.0;
        signature = signature.0;
        body = body.0;
        span = span_between place body.1;
      },
      body.1,
    )

  unfoldable pub read_top_level_within : Cursor → Read TopLevelDeclaration
  read_top_level_within place =
      if stands FuncKeyword place then (do
        f ← read_function_declaration_within place
        Some (function_declaration f.0, f.1)
      ) else read_by (of_next declaration_keyword place)
    where
      read_by : Option DeclKeyword → Read TopLevelDeclaration
      read_by None = None
      read_by (Some keyword) = do
        d ← read_declaration text top keyword place
        Some (general_declaration d.0, d.1)

  -- declarations to the end of the tokens, each with its semicolon
  unfoldable pub read_top_levels_within : ℕ → Cursor → Read (List TopLevelDeclaration)
  read_top_levels_within zero place = None
  read_top_levels_within (suc n) place =
      if is_over text place then Some ([], place)
      else (do
        first ← read_top_level_within place
        end ← take_semicolon first.1
        more ← read_top_levels_within n end
        Some (first.0 ∷ more.0, more.1)
      )

  -- all tokens of a file
  unfoldable pub read_file_within : Cursor → Read SourceFile
  read_file_within place = do
    word ← take PackageKeyword place
    n ← read_identifier text word
    end ← take_semicolon n.1
    imports ← read_imports text (steps end) end
    declarations ← read_top_levels_within (steps imports.1) imports.1
    Some (
      record {
        package_name = n.0;
        imports = imports.0;
        declarations = declarations.0;
        span = span_between place declarations.1;
      },
      declarations.1,
    )

-- The same with the limit that the tree of a text has.
module _ (text : GoText) where
  abbrev pub read_receiver : Cursor → Read (Option Parameters)
  read_receiver = read_receiver_within text MOST_DEPTH

  abbrev pub read_body : Cursor → Read (Option Block)
  read_body = read_body_within text MOST_DEPTH

  abbrev pub read_function_declaration : Cursor → Read Function
  read_function_declaration = read_function_declaration_within text MOST_DEPTH

  abbrev pub read_top_level : Cursor → Read TopLevelDeclaration
  read_top_level = read_top_level_within text MOST_DEPTH

  abbrev pub read_top_levels : ℕ → Cursor → Read (List TopLevelDeclaration)
  read_top_levels = read_top_levels_within text MOST_DEPTH

  abbrev pub read_file : Cursor → Read SourceFile
  read_file = read_file_within text MOST_DEPTH

-- Small functions to try the rules for fields on. Each file has these, and the last with one more statement:
--     func (t *T) Close() { t.stop() }
--     func reg()
--     func f(p context.Context) {
--         _, c := context.WithCancel(p)
--         t := &T{stop: c}
--         ..
--     }
-- Offsets are those of no text: their order is what counts. c is declared at 143, t at 180.
-- (This tool's rules.)
use Rattle.std.specs.Prelude.{ℕ, ◌+◌, ◌≡◌, false, List, [], ◌∷◌, None, Some, codes}
use Rattle.tree.specs.declared.edition.Edition.TheVariants.{Second}
use Rattle.tree.specs.declared.operator.UnaryOperator.TheVariants.{Address}
use Rattle.tree.specs.declared.operator.DeclKeyword.TheVariants.{Const}
use Rattle.tree.specs.Syntax.{Expression, ExpressionForm, function_literal, composite_literal, literal_value, key_value, parenthesized, selector_expression, call_expression, star_expression, unary_expression, slice_type, Expressions, no_expression, expression_and, Parameters, no_parameter, named_and, signature_of, Statement, StatementForm, declaration_statement, expression_statement, send_statement, assignment, define_statement, go_statement, return_statement, range_definition, type_switch_statement, select_statement, Statements, no_statement, statement_and, missing_statement, present_statement, no_case, case_and, no_communication, communication_and, declaration_of, no_spec, value_and, missing_expression, Function, function_declaration, SourceFile}
use Rattle.meaning.specs.Declarations.{declaration_of_use}
use Rattle.meaning.specs.TreeExamples.{from_to, node, doing, name, use_of, only}
use Rattle.meaning.specs.Tracked.{Fields, each_field, Known}
use Rattle.meaning.specs.Uses.{Seen, Event, obtain_kept, renew, keep, call_kept, give, give_field, return_event}
use Rattle.meaning.specs.BodyEvents.{seen_file, events_at}
use Rattle.meaning.specs.KeepingFields.{keeping_fields, fields_in_files, fields_kept}

-- `n.m`, where each has one letter or a few
abbrev pub member : List ℕ → ℕ → List ℕ → ℕ → Expression
member n at m dot = node at (dot + 8) (selector_expression (use_of n at) (name m dot))

abbrev pub call_with : Expression → Expressions → ℕ → Expression
call_with f es at = node at (at + 25) (call_expression f es false)

-- `context.WithCancel(p)`
abbrev pub making : ℕ → Expression
making at =
    call_with (member (codes "context") at (codes "WithCancel") (at + 8)) (only (use_of (codes "p") (at + 19))) at

-- `&T{stop: c}`
abbrev pub keeping_literal : ℕ → Expression
keeping_literal at =
    node at (at + 15) (unary_expression Address (node (at + 1) (at + 15) (composite_literal
    (use_of (codes "T") (at + 1))
    (only (node (at + 3) (at + 10) (key_value (use_of (codes "stop") (at + 3)) (use_of (codes "c") (at + 9))))))))

-- `n := e`
abbrev pub defining : List ℕ → Expression → ℕ → Statement
defining n e at = doing at (at + 30) (define_statement (name n at ∷ []) (only e))

-- `func (t *T) Close() { t.stop() }`
abbrev pub closing : Function
closing = record {
  receiver =
      Some (named_and (name (codes "t") 6) false (node 8 10 (star_expression (use_of (codes "T") 9))) no_parameter);
  name = name (codes "Close") 12;
  type_parameters = no_parameter;
  signature = signature_of no_parameter no_parameter false;
  body = Some record {
    statements =
        statement_and (doing 22 30 (expression_statement
        (call_with (member (codes "t") 22 (codes "stop") 24) no_expression 22))) no_statement;
    braces = from_to 20 40;
  };
  span = from_to 0 40;
}

-- `func reg()`, without a body
abbrev pub registering : Function
registering = record {
  receiver = None;
  name = name (codes "reg") 52;
  type_parameters = no_parameter;
  signature = signature_of no_parameter no_parameter false;
  body = None;
  span = from_to 47 60;
}

-- `func f(p context.Context, ..) { .. }`
abbrev pub function_with : Parameters → Statements → Function
function_with ps ss = record {
  receiver = None;
  name = name (codes "f") 105;
  type_parameters = no_parameter;
  signature =
      signature_of (named_and (name (codes "p") 107) false (member (codes "context") 109 (codes "Context") 117) ps)
      no_parameter false;
  body = Some record { statements = ss; braces = from_to 130 400 };
  span = from_to 100 400;
}

abbrev pub function_of : Statements → Function
function_of = function_with no_parameter

-- `t *T`
abbrev pub pointer : Parameters
pointer = named_and (name (codes "t") 125) false (node 127 129 (star_expression (use_of (codes "T") 128))) no_parameter

-- `_, c := context.WithCancel(p)`, then these
abbrev pub made_before : Statements → Statements
made_before ss =
    statement_and
    (doing 140 175 (define_statement (name (codes "_") 140 ∷ name (codes "c") 143 ∷ []) (only (making 148)))) ss

-- the function above with this statement
abbrev pub with_last : StatementForm → Function
with_last s =
    function_of (made_before (statement_and (defining (codes "t") (keeping_literal 185) 180)
    (statement_and (doing 220 300 s) no_statement)))

abbrev pub file_of : Function → SourceFile
file_of f = record {
  package_name = name (codes "a") 500;
  imports =
      record {
        specs =
            record { name = None; path = codes "context"; path_span = from_to 510 519; span = from_to 510 519 } ∷ [];
        is_grouped = false;
        span = from_to 503 519;
      }
      ∷ [];
  declarations =
      function_declaration closing ∷ function_declaration registering ∷ function_declaration f ∷ [];
  span = from_to 0 519;
}

abbrev pub known_of : Fields → Function → Known
known_of fields f = record {
  edition = Second;
  means = declaration_of_use (file_of f ∷ []) (λ path. None) 0;
  fields = fields;
  object_lefts = λ at. None;
  functions = λ name. None;
  imported = λ path name. None;
}

abbrev pub seen_of : Fields → Function → Seen
seen_of fields f = seen_file (known_of fields f) (file_of f)

abbrev pub fields_of : Function → List (List ℕ)
fields_of f = keeping_fields (seen_of each_field f ∷ [])

-- f as its own fields have it seen
abbrev pub seen_by_rules : Function → Seen
seen_by_rules f = seen_of (fields_in_files (seen_of each_field f ∷ [])) f

-- the events of f at a site, by the fields that keep
abbrev pub Does : Function → ℕ → List Event → Type 0
Does f at events =
    events_at (seen_by_rules f) 100 (seen_by_rules f).marks at ≡ events

abbrev pub of_t : List ℕ → Expression
of_t m = member (codes "t") 230 m 232

abbrev pub calling : Expression → Expressions → Expression
calling f es = call_with f es 230

-- `return t`, `return &T{stop: c}`
abbrev pub returning : Expression → StatementForm
returning e = return_statement (only e)

-- `reg(e)`
abbrev pub passing : List ℕ → Expression → StatementForm
passing f e = expression_statement (calling (use_of f 225) (only e))

abbrev pub the_object : Expression
the_object = use_of (codes "t") 240

-- `l = e`
abbrev pub assigning : Expression → Expression → StatementForm
assigning l e = assignment (only l) (only e)

-- `func() { t.run() }`
abbrev pub running_literal : Expression
running_literal =
    node 240 280 (function_literal (signature_of no_parameter no_parameter false)
    (statement_and (doing 250 270 (expression_statement
    (call_with (member (codes "t") 250 (codes "run") 252) no_expression 250))) no_statement)
    (from_to 248 280))

-- `_, d := context.WithCancel(p)`, and then `t.stop = d`, behind what stands above
abbrev pub keeping_two : Function
keeping_two =
    function_of (made_before (statement_and (defining (codes "t") (keeping_literal 185) 180)
    (statement_and
    (doing 210 216 (define_statement (name (codes "_") 210 ∷ name (codes "d") 212 ∷ []) (only (making 300))))
    (statement_and (doing 220 290 (assigning (of_t (codes "stop")) (use_of (codes "d") 240))) no_statement))))

-- `t := &T{}`, `t.ctx, t.stop = context.WithCancel(p)`
abbrev pub obtaining : Function
obtaining =
    function_of (statement_and (defining (codes "t")
    (node 185 200 (unary_expression Address (node 186 200 (composite_literal (use_of (codes "T") 186) no_expression))))
    180)
    (statement_and (doing 220 300 (assignment
    (expression_and (member (codes "t") 220 (codes "ctx") 222) (only (member (codes "t") 230 (codes "stop") 232)))
    (only (making 250)))) no_statement))

-- with this parameter, and this statement at the end
abbrev pub pointing : Parameters → StatementForm → Function
pointing ps s = function_with ps (made_before (statement_and (doing 220 300 s) no_statement))

-- `t T`
abbrev pub no_pointer : Parameters
no_pointer = named_and (name (codes "t") 125) false (use_of (codes "T") 127) no_parameter

-- with `t := &T{}`, and this statement at the end
abbrev pub with_empty : StatementForm → Function
with_empty s =
    function_of (made_before (statement_and
    (defining (codes "t") (node 185 200 (unary_expression Address
    (node 186 200 (composite_literal (use_of (codes "T") 186) no_expression)))) 180)
    (statement_and (doing 220 300 s) no_statement)))

abbrev pub the_function : Expression
the_function = use_of (codes "c") 240

abbrev pub y_of : List ℕ → ℕ → Expression
y_of m at = member (codes "y") at m (at + 2)

-- `y.a, y.b = y, e`
abbrev pub assigning_two : Expression → StatementForm
assigning_two e =
    assignment (expression_and (y_of (codes "a") 220) (only (y_of (codes "b") 225)))
    (expression_and (use_of (codes "y") 228) (only e))

-- `reg(l)`, where the literal has this type and the one element `{stop: c}`
abbrev pub passing_elided : ExpressionForm → StatementForm
passing_elided type =
    passing (codes "reg") (node 240 290 (composite_literal (node 240 244 type)
    (only (node 250 260 (literal_value
    (only (node 251 258 (key_value (use_of (codes "stop") 251) (use_of (codes "c") 257)))))))))

-- `select { case ch <- t: }`, where the clause begins at 225
abbrev pub sending : StatementForm
sending =
    select_statement (communication_and
    (present_statement (doing 230 250 (send_statement (use_of (codes "ch") 230) (use_of (codes "t") 240))))
    no_statement (from_to 225 260) no_communication)

-- `t.stop = c`, behind another `t`
abbrev pub storing_within : Statements
storing_within =
    statement_and (doing 260 280
    (assigning (member (codes "t") 260 (codes "stop") 262) (use_of (codes "c") 270))) no_statement

-- `for _, t := range p { t.stop = c }`
abbrev pub ranging : StatementForm
ranging =
    range_definition (name (codes "_") 224 ∷ name (codes "t") 227 ∷ []) (use_of (codes "p") 240) storing_within
    (from_to 250 290)

-- `switch t := p.(type) { default: t.stop = c }`, where the clause begins at 255
abbrev pub switching : StatementForm
switching =
    type_switch_statement missing_statement false (Some (name (codes "t") 227)) (use_of (codes "p") 240)
    (case_and no_expression storing_within (from_to 255 285) no_case)

-- `(println)(t)`
abbrev pub passing_in_brackets : StatementForm
passing_in_brackets =
    expression_statement (calling (node 222 231 (parenthesized (use_of (codes "println") 223))) (only the_object))

-- `reg(func() { reg(P{t: 1}) })`
abbrev pub keyed_literal : Expression
keyed_literal =
    node 240 280 (function_literal (signature_of no_parameter no_parameter false)
    (statement_and (doing 250 270 (expression_statement (call_with (use_of (codes "reg") 250)
    (only (node 255 265 (composite_literal (use_of (codes "P") 255)
    (only (node 257 262 (key_value (use_of (codes "t") 257) (use_of (codes "p") 261))))))) 250))) no_statement)
    (from_to 248 280))

-- `(t).stop`
abbrev pub stop_of_bracketed : Expression
stop_of_bracketed =
    node 230 240 (selector_expression (node 230 233 (parenthesized (use_of (codes "t") 231))) (name (codes "stop") 235))

abbrev pub address : Expression
address = node 240 242 (unary_expression Address (use_of (codes "t") 241))

-- `const stop = 0`, and then t as above
abbrev pub with_key_declared : Function
with_key_declared =
    function_of (made_before (statement_and
    (doing 176 179 (declaration_statement (declaration_of Const
    (value_and (name (codes "stop") 176 ∷ []) missing_expression (only (use_of (codes "p") 178)) (from_to 176 179)
    no_spec) false (from_to 176 179))))
    (statement_and (defining (codes "t") (keeping_literal 185) 180)
    (statement_and (doing 220 300 (returning the_object)) no_statement))))

pub record KeptInFields : Type 0 where
  pub keeps : fields_of (with_last (returning the_object)) ≡ codes "stop" ∷ []
  pub is_kept : Does (with_last (returning the_object)) 180 (renew 143 180 ∷ keep 143 180 ∷ [])
  pub by_return : Does (with_last (returning the_object)) 220
      (return_event (record { number = 143; position = 0; object = Some 180 } ∷ []) ∷ [])
  pub at_once : Does (with_last (returning (keeping_literal 240))) 220
      (return_event (record { number = 143; position = 0; object = None } ∷ []) ∷ [])
  pub passed_at_once : Does (with_last (passing (codes "reg") (keeping_literal 240))) 220 (give_field 143 ∷ [])
  pub passed : Does (with_last (passing (codes "reg") the_object)) 220 (give 143 180 ∷ [])
  -- Go's own functions keep nothing
  pub printed : Does (with_last (passing (codes "println") the_object)) 220 []
  pub in_literal : Does (with_last (passing (codes "reg") running_literal)) 220 (give 143 180 ∷ [])
  pub by_field : Does (with_last (expression_statement (calling (of_t (codes "stop")) no_expression))) 220
      (call_kept 143 180 ∷ [])
  -- a method of the object may forget it
  pub by_method : Does (with_last (expression_statement (calling (of_t (codes "run")) no_expression))) 220 []
  pub by_goroutine : Does (with_last (go_statement (calling (of_t (codes "run")) no_expression))) 220
      (give 143 180 ∷ [])
  pub to_field : Does (with_last (assigning (member (codes "y") 220 (codes "z") 222) the_object)) 220
      (give 143 180 ∷ [])
  -- a name is nobody else
  pub to_name : Does (with_last (assigning (use_of (codes "y") 220) the_object)) 220 []
  -- an object that is bound again keeps nothing, nor does a field that gets something else
  pub bound_again : Does (with_last (assigning (use_of (codes "t") 220) (use_of (codes "nil") 240))) 180 []
  pub overwritten : Does (with_last (assigning (of_t (codes "stop")) (use_of (codes "nil") 240))) 180 []
  pub obtains_into : Does obtaining 220
      (obtain_kept record { number = 232; at = 232 } record { path = Some (codes "context"); name = codes "WithCancel" }
      1 180 ∷ [])
  pub tells : fields_kept (seen_by_rules obtaining) ≡ codes "stop" ∷ []
  -- a field of an outer object: others have it
  pub to_outer : Does (pointing pointer (assigning (of_t (codes "stop")) the_function)) 220 (give_field 143 ∷ [])
  pub outer_obtains : Does (pointing pointer (assignment
      (expression_and (y_of (codes "ctx") 220) (only (member (codes "t") 230 (codes "stop") 232))) (only (making 250))))
      220 []
  pub to_new : Does (with_empty (assigning (of_t (codes "stop")) the_function)) 220 (keep 143 180 ∷ [])
  -- something else spoils the field
  pub spoiled : fields_of (with_last (assigning (y_of (codes "stop") 220) (use_of (codes "p") 240))) ≡ []
  pub by_pair : Does (with_last (assigning_two the_object)) 220 (give 143 180 ∷ [])
  pub by_append : Does (with_last (assigning_two (calling (use_of (codes "append") 230) (only the_object)))) 220
      (give 143 180 ∷ [])
  pub sent : Does (with_last sending) 225 (give 143 180 ∷ [])
  pub elided : Does (with_last (passing_elided (slice_type (use_of (codes "T") 242)))) 220 (give_field 143 ∷ [])
  pub of_slices :
      Does (with_last (passing_elided (slice_type (node 242 244 (slice_type (use_of (codes "T") 243)))))) 220 []
  pub by_method_name : Does (with_last (go_statement (calling (of_t (codes "stop")) no_expression))) 220 []
  pub of_range : Does (function_of (made_before (statement_and (doing 220 300 ranging) no_statement))) 220
      (renew 143 227 ∷ [])
  pub of_clause : Does (function_of (made_before (statement_and (doing 220 300 switching) no_statement))) 255
      (renew 143 255 ∷ [])
  -- a parameter by value is nobody else's, and no object
  pub by_value : Does (pointing no_pointer (assigning (of_t (codes "stop")) the_function)) 220 []
  pub other_field : Does (with_last (passing (codes "reg") (of_t (codes "ctx")))) 220 []
  pub never_called : fields_of (with_empty (assigning (of_t (codes "halt")) the_function)) ≡ []
  pub second_variable : Does keeping_two 180 []
  pub second_is_read : Does keeping_two 220 []
  -- a key that is declared may be that of a map
  pub key_declared : Does with_key_declared 180 []
  -- the name of a field is no mention of t
  pub keyed : Does (with_last (passing (codes "reg") keyed_literal)) 220 []
  pub printed_in_brackets : Does (with_last passing_in_brackets) 220 []
  pub overwritten_in_brackets : Does (with_last (assigning stop_of_bracketed (use_of (codes "nil") 245))) 180 []
  -- `y := &t` may give t another value; with `reg(&t)` others have what it keeps
  pub pointed_to : Does (with_last (define_statement (name (codes "y") 225 ∷ []) (only address))) 180 []
  pub address_given : Does (with_last (passing (codes "reg") address)) 220 (give 143 180 ∷ [])
  -- `go t.run()` where run is a field too
  pub by_filled : Does (function_of (made_before (statement_and (defining (codes "t") (keeping_literal 185) 180)
      (statement_and (doing 210 219 (assigning (member (codes "y") 210 (codes "run") 212) (use_of (codes "p") 216)))
      (statement_and (doing 220 300 (go_statement (calling (of_t (codes "run")) no_expression))) no_statement))))) 220
      []

-- Small functions in which an element is that of a field for certain, or may be that of a map, and in which an object
-- may get another value by its address, or can't. They are made as those of `KeptExamples`.
-- (This tool's rules.)
use Rattle.std.specs.Prelude.{ℕ, ◌+◌, ◌≡◌, false, List, [], ◌∷◌, None, Some, codes}
use Rattle.tree.specs.declared.operator.UnaryOperator.TheVariants.{Address}
use Rattle.tree.specs.declared.operator.DeclKeyword.TheVariants.{Const, Var}
use Rattle.tree.specs.Syntax.{Expression, function_literal, composite_literal, key_value, parenthesized, selector_expression, star_expression, unary_expression, no_expression, expression_and, signature_of, no_parameter, Statement, StatementForm, declaration_statement, expression_statement, assignment, define_statement, go_statement, defer_statement, no_statement, statement_and, declaration_of, no_spec, value_and, missing_expression, present_expression, Function, general_declaration, SourceFile}
use Rattle.meaning.specs.Declarations.{declaration_of_use}
use Rattle.meaning.specs.TreeExamples.{from_to, node, doing, name, use_of, only}
use Rattle.meaning.specs.Tracked.{Fields, each_field, Known}
use Rattle.meaning.specs.Uses.{Seen, Event, renew, keep, return_event}
use Rattle.meaning.specs.BodyEvents.{seen_file, events_at}
use Rattle.meaning.specs.KeepingFields.{fields_in_files}
use Rattle.meaning.specs.KeptExamples.{member, keeping_literal, defining, function_with, function_of, made_before, with_last, file_of, known_of, Does, of_t, calling, returning, passing, the_object, assigning, pointer, the_function, address, call_with, making}

-- `T{f: c}`
abbrev pub literal_with : List ℕ → ℕ → Expression
literal_with f at =
    node at (at + 14) (composite_literal (use_of (codes "T") at)
    (only (node (at + 2) (at + 9) (key_value (use_of f (at + 2)) (use_of (codes "c") (at + 8))))))

-- `&e`
abbrev pub address_of : Expression → ℕ → Expression
address_of e at = node at (at + 15) (unary_expression Address e)

-- `t := &T{f: c}` and `t.f()`
abbrev pub with_key : List ℕ → Function
with_key f =
    function_of (made_before (statement_and (defining (codes "t") (address_of (literal_with f 186) 185) 180)
    (statement_and (doing 220 300 (expression_statement (calling (of_t f) no_expression))) no_statement)))

-- the file of the function with `import . "fmt"`
abbrev pub dotted : Function → SourceFile
dotted f =
    record (file_of f) {
      imports =
          record {
            specs =
                record {
                  name = Some (name (codes ".") 525);
                  path = codes "fmt";
                  path_span = from_to 527 532;
                  span = from_to 525 532;
                } ∷ [];
            is_grouped = false;
            span = from_to 520 532;
          }
          ∷ (file_of f).imports;
    }

-- with `const halt = p`
abbrev pub with_constant : Function → SourceFile
with_constant f =
    record (file_of f) {
      declarations =
          general_declaration (declaration_of Const
          (value_and (name (codes "halt") 546 ∷ []) missing_expression (only (use_of (codes "p") 553))
          (from_to 546 554) no_spec) false (from_to 540 554))
          ∷ (file_of f).declarations;
    }

abbrev pub known_in_file : Fields → SourceFile → Function → Known
known_in_file fields file f =
    record (known_of fields f) { means = declaration_of_use (file ∷ []) (λ path. None) 0 }

abbrev pub seen_in_file : Fields → SourceFile → Function → Seen
seen_in_file fields file f = seen_file (known_in_file fields file f) file

abbrev pub seen_with : SourceFile → Function → Seen
seen_with file f = seen_in_file (fields_in_files (seen_in_file each_field file f ∷ [])) file f

-- the events of f at a site, where it stands in this file
abbrev pub DoesIn : SourceFile → Function → ℕ → List Event → Type 0
DoesIn file f at events = events_at (seen_with file f) 100 (seen_with file f).marks at ≡ events

-- `y := &t`
abbrev pub pointing_at : ℕ → Statement
pointing_at at =
    doing at (at + 8) (define_statement (name (codes "y") at ∷ [])
    (only (node (at + 5) (at + 7) (unary_expression Address (use_of (codes "t") (at + 6))))))

-- `t := e`, `y := &t`, and this statement
abbrev pub behind_address : Expression → StatementForm → Function
behind_address e s =
    function_of (made_before (statement_and (defining (codes "t") e 180)
    (statement_and (pointing_at 211) (statement_and (doing 220 300 s) no_statement))))

-- `T{}`
abbrev pub empty_literal : Expression
empty_literal = node 186 200 (composite_literal (use_of (codes "T") 186) no_expression)

-- `t.stop = c`
abbrev pub storing : StatementForm
storing = assigning (of_t (codes "stop")) the_function

-- `var t T`, `y := &t`, and `t.stop = c`
abbrev pub storing_in_variable : Function
storing_in_variable =
    function_of (made_before (statement_and
    (doing 176 190 (declaration_statement (declaration_of Var
    (value_and (name (codes "t") 180 ∷ []) (present_expression (use_of (codes "T") 182)) no_expression
    (from_to 180 183) no_spec) false (from_to 176 183))))
    (statement_and (pointing_at 211) (statement_and (doing 220 300 storing) no_statement))))

-- `(e).stop = nil`
abbrev pub emptying : Expression → StatementForm
emptying e =
    assigning (node 230 245 (selector_expression (node 230 235 (parenthesized e)) (name (codes "stop") 236)))
    (use_of (codes "nil") 250)

-- `func() { reg(&t) }`
abbrev pub passing_within : Expression
passing_within =
    node 240 280 (function_literal (signature_of no_parameter no_parameter false)
    (statement_and (doing 250 270 (expression_statement (call_with (use_of (codes "reg") 250)
    (only (node 255 257 (unary_expression Address (use_of (codes "t") 256)))) 250))) no_statement)
    (from_to 248 280))

-- `reg(U{run: p})` between, and then `go t.run()`
abbrev pub going_on : Function
going_on =
    function_of (made_before (statement_and (defining (codes "t") (keeping_literal 185) 180)
    (statement_and
    (doing 210 219 (expression_statement (call_with (use_of (codes "reg") 210)
    (only (node 213 218 (composite_literal (use_of (codes "U") 213)
    (only (node 215 217 (key_value (use_of (codes "run") 215) (use_of (codes "p") 217))))))) 210)))
    (statement_and (doing 220 300 (go_statement (calling (of_t (codes "run")) no_expression))) no_statement))))

-- `const stop = p` between, and then `reg(&T{stop: c})`
abbrev pub passing_declared : Function
passing_declared =
    function_of (made_before (statement_and (defining (codes "t") (keeping_literal 185) 180)
    (statement_and
    (doing 211 218 (declaration_statement (declaration_of Const
    (value_and (name (codes "stop") 212 ∷ []) missing_expression (only (use_of (codes "p") 217)) (from_to 212 218)
    no_spec) false (from_to 211 218))))
    (statement_and (doing 220 300 (passing (codes "reg") (keeping_literal 240))) no_statement))))

-- `t.ctx, t.stop = context.WithCancel(p)`
abbrev pub obtaining_there : StatementForm
obtaining_there =
    assignment (expression_and (member (codes "t") 220 (codes "ctx") 222) (only (of_t (codes "stop"))))
    (only (making 250))

-- `(f)(t)`
abbrev pub calling_within : List ℕ → Expression
calling_within f = calling (node 222 231 (parenthesized (use_of f 223))) (only the_object)

abbrev pub is_kept : List Event
is_kept = renew 143 180 ∷ keep 143 180 ∷ []

pub record KeptForCertain : Type 0 where
  -- a key that nothing declares is a field's
  pub undeclared_key : Does (with_key (codes "halt")) 180 is_kept
  -- functions are no keys, and so no cancel variables are
  pub key_of_function : Does (with_key (codes "reg")) 180 is_kept
  pub key_of_variable : Does (with_key (codes "c")) 180 is_kept
  pub key_of_parameter : Does (with_key (codes "p")) 180 []
  pub key_of_universe : Does (with_key (codes "true")) 180 []
  pub key_of_import : Does (with_key (codes "context")) 180 []
  pub key_of_package : DoesIn (with_constant (with_key (codes "halt"))) (with_key (codes "halt")) 180 []
  pub key_of_dot_import : DoesIn (dotted (with_key (codes "Halt"))) (with_key (codes "Halt")) 180 []
  pub key_beside_dot_import : DoesIn (dotted (with_key (codes "halt"))) (with_key (codes "halt")) 180 is_kept
  pub passed_at_once : Does passing_declared 220 []
  -- what is declared with a literal has the field itself, and so has `var t T`
  pub of_value : Does (behind_address (literal_with (codes "stop") 186) (returning the_object)) 180 is_kept
  pub of_variable : Does storing_in_variable 220 (keep 143 180 ∷ [])
  -- a pointer may be another one behind `y := &t`
  pub of_pointer : Does (behind_address (address_of empty_literal 185) storing) 220 []
  pub obtaining : Does (behind_address (address_of empty_literal 185) obtaining_there) 220 []
  pub of_outer : Does (function_with pointer (made_before (statement_and (pointing_at 211)
      (statement_and (doing 220 300 storing) no_statement)))) 220 []
  pub given_within : Does (with_last (passing (codes "reg") passing_within)) 180 []
  pub address_returned : Does (with_last (returning address)) 220
      (return_event (record { number = 143; position = 0; object = Some 180 } ∷ []) ∷ [])
  pub by_star : Does (with_last (emptying (node 231 233 (star_expression (use_of (codes "t") 232))))) 180 []
  -- the name of a field is no method's
  pub by_key : Does going_on 220 []
  -- what a name in brackets calls gets nothing
  pub going_within : Does (with_last (go_statement (calling_within (codes "reg")))) 220 []
  pub deferred_within : Does (with_last (defer_statement (calling_within (codes "println")))) 220 []

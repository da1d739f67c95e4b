-- Packages to try runs on: the trees of the texts above them. Each text stands after the lines `package a`, an empty
-- one, `import "context"` and an empty one, so that `func` begins at offset 29.
use Rattle.std.specs.Prelude.{ℕ, ◌+◌, true, false, List, [], ◌∷◌, None, Some, length, map, codes}
use Rattle.tree.specs.declared.edition.Edition.TheVariants.{First}
use Rattle.tree.specs.Syntax.{Expression, function_literal, selector_expression, call_expression, no_expression, expression_and, no_parameter, named_and, signature_of, Statement, expression_statement, assignment, define_statement, defer_statement, Statements, no_statement, statement_and, Function, function_declaration, SourceFile}
pub use Rattle.meaning.specs.TreeExamples.{from_to, node, doing, name, use_of}
use Rattle.meaning_reports.specs.Loaded.{has_tree, LoadedPackage, no_tables}
use Rattle.meaning_runs.specs.Bodies.{Program}

-- `context.member`
abbrev pub of_context : List ℕ → ℕ → Expression
of_context member at =
    node at (at + 8 + length member) (selector_expression (use_of (codes "context") at) (name member (at + 8)))

-- `context.WithCancel(p)`
abbrev pub maker_at : ℕ → Expression
maker_at at =
    node at (at + 21) (call_expression
    (of_context (codes "WithCancel") at)
    (expression_and (use_of (codes "p") (at + 19)) no_expression)
    false)

-- `_, cancel := context.WithCancel(p)`
abbrev pub binding_at : ℕ → Statement
binding_at at =
    doing at (at + 34) (define_statement
    (name (codes "_") at ∷ name (codes "cancel") (at + 3) ∷ [])
    (expression_and (maker_at (at + 13)) no_expression))

-- `cancel()`
abbrev pub call_at : ℕ → Expression
call_at at = node at (at + 8) (call_expression (use_of (codes "cancel") at) no_expression false)

-- `func f(p context.Context) { .. }`, where `}` is the last byte before `end`
abbrev pub function_to : ℕ → Statements → Function
function_to end ss = record {
  receiver = None;
  name = name (codes "f") 34;
  type_parameters = no_parameter;
  signature =
      signature_of (named_and (name (codes "p") 36) false (of_context (codes "Context") 38) no_parameter) no_parameter
      false;
  body = Some record { statements = ss; braces = from_to 55 end };
  span = from_to 29 end;
}

abbrev pub file_with : List Function → SourceFile
file_with fs = record {
  package_name = name (codes "a") 8;
  imports =
      record {
        specs =
            record { name = None; path = codes "context"; path_span = from_to 18 27; span = from_to 18 27 } ∷ [];
        is_grouped = false;
        span = from_to 11 27;
      }
      ∷ [];
  declarations = map function_declaration fs;
  span = from_to 0 145;
}

-- a package of one file with these functions
abbrev pub loaded_with : List Function → LoadedPackage
loaded_with fs = record { path = codes "a"; edition = First; files = has_tree (file_with fs) ∷ [] }

abbrev pub program_with : List Function → Program
program_with fs = record {
  packages = loaded_with fs ∷ [];
  tables = no_tables;
  declared = no_tables;
  looked_at = 0;
  are_run = λ home. true;
}

-- the call is saved for the return:
--     func f(p context.Context) {
--         _, cancel := context.WithCancel(p)
--         defer cancel()
--     }
abbrev pub saving : Function
saving =
    function_to 110
    (statement_and (binding_at 58)
    (statement_and (doing 94 108 (defer_statement (call_at 100)))
    no_statement))

-- nothing is called:
--     func f(p context.Context) {
--         _, cancel := context.WithCancel(p)
--     }
abbrev pub forgetting : Function
forgetting = function_to 94 (statement_and (binding_at 58) no_statement)

-- the function is passed to the next one:
--     func f(p context.Context) {
--         _, cancel := context.WithCancel(p)
--         g(cancel)
--     }
abbrev pub passing : Function
passing =
    function_to 105
    (statement_and (binding_at 58)
    (statement_and (doing 94 103 (expression_statement (node 94 103 (call_expression
    (use_of (codes "g") 94)
    (expression_and (use_of (codes "cancel") 96) no_expression)
    false))))
    no_statement))

-- which calls it, after an empty line:
--     func g(c context.CancelFunc) {
--         c()
--     }
abbrev pub taking : Function
taking = record {
  receiver = None;
  name = name (codes "g") 112;
  type_parameters = no_parameter;
  signature =
      signature_of (named_and (name (codes "c") 114) false (of_context (codes "CancelFunc") 116) no_parameter)
      no_parameter false;
  body =
      Some record {
        statements =
            statement_and (doing 139 142 (expression_statement (node 139 142 (call_expression
            (use_of (codes "c") 139) no_expression false)))) no_statement;
        braces = from_to 136 144;
      };
  span = from_to 107 144;
}

-- a literal is saved that calls it:
--     func f(p context.Context) {
--         _, cancel := context.WithCancel(p)
--         defer func() { cancel() }()
--     }
abbrev pub deferring : Function
deferring =
    function_to 123
    (statement_and (binding_at 58)
    (statement_and (doing 94 121 (defer_statement (node 100 121 (call_expression
    (node 100 119 (function_literal (signature_of no_parameter no_parameter false)
    (statement_and (doing 109 117 (expression_statement (call_at 109))) no_statement)
    (from_to 107 119)))
    no_expression false))))
    no_statement))

-- the variable is assigned to again, and the function that it held is lost:
--     func f(p context.Context) {
--         _, cancel := context.WithCancel(p)
--         _, cancel = context.WithCancel(p)
--         cancel()
--     }
abbrev pub overwriting : Function
overwriting =
    function_to 139
    (statement_and (binding_at 58)
    (statement_and (doing 94 127 (assignment
    (expression_and (use_of (codes "_") 94) (expression_and (use_of (codes "cancel") 97) no_expression))
    (expression_and (maker_at 106) no_expression)))
    (statement_and (doing 129 137 (expression_statement (call_at 129)))
    no_statement)))

-- Packages with error groups to try runs on: the trees of the texts above them. Each text stands after seven lines, so
-- that `func` begins at offset 64:
--     package a
--
--     import (
--         "context"
--         "golang.org/x/sync/errgroup"
--     )
--
use Rattle.std.specs.Prelude.{ℕ, ◌+◌, false, true, List, [], ◌∷◌, None, Some, length, map, codes}
use Rattle.tree.specs.declared.edition.Edition.TheVariants.{First}
use Rattle.tree.specs.declared.operator.BinaryOperator.TheVariants.{NotEqual}
use Rattle.tree.specs.declared.operator.DeclKeyword.TheVariants.{Var}
use Rattle.tree.specs.declared.operator.UnaryOperator.TheVariants.{Address}
use Rattle.tree.specs.Syntax.{Expression, function_literal, selector_expression, call_expression, star_expression, unary_expression, binary_expression, no_expression, present_expression, Parameters, no_parameter, named_and, unnamed_and, signature_of, Statement, expression_statement, declaration_statement, assignment, define_statement, defer_statement, return_statement, if_statement, Statements, no_statement, statement_and, missing_statement, present_statement, declaration_of, no_spec, value_and, Function, function_declaration, SourceFile}
use Rattle.meaning.specs.TreeExamples.{only}
use Rattle.meaning_reports.specs.Loaded.{has_tree, LoadedPackage, no_tables}
use Rattle.meaning_runs.specs.Bodies.{Program}
use Rattle.meaning_runs.specs.Examples.{from_to, node, doing, name, use_of, of_context, binding_at, call_at}
use Rattle.meaning_runs.specs.LoudReturns.{test_at}

-- Parts

-- `errgroup.member`
abbrev pub of_errgroup : List ℕ → ℕ → Expression
of_errgroup member at =
    node at (at + 9 + length member) (selector_expression (use_of (codes "errgroup") at) (name member (at + 9)))

-- `var group errgroup.Group`, for a name of one letter
abbrev pub declared_at : List ℕ → ℕ → Statement
declared_at group at =
    doing at (at + 20) (declaration_statement (declaration_of Var (value_and (name group (at + 4) ∷ [])
    (present_expression (of_errgroup (codes "Group") (at + 6))) no_expression (from_to (at + 4) (at + 20)) no_spec)
    false (from_to at (at + 20))))

-- `group.method`, for a name of one letter
abbrev pub method_at : List ℕ → List ℕ → ℕ → Expression
method_at group method at =
    node at (at + 2 + length method) (selector_expression (use_of group at) (name method (at + 2)))

-- `group.method(argument)`, which ends before `end`
abbrev pub starting_to : ℕ → List ℕ → List ℕ → Expression → ℕ → Statement
starting_to end group method argument at =
    doing at end (expression_statement (node at end (call_expression (method_at group method at)
    (only argument) false)))

-- `group.Go(inner)`
abbrev pub starting_inner : List ℕ → ℕ → Statement
starting_inner group at = starting_to (at + 11) group (codes "Go") (use_of (codes "inner") (at + 5)) at

-- `group.Wait()`
abbrev pub waiting_at : List ℕ → ℕ → Expression
waiting_at group at = node at (at + 8) (call_expression (method_at group (codes "Wait") at) no_expression false)

-- `return g.Wait()`
abbrev pub returning_wait : ℕ → Statement
returning_wait at = doing at (at + 15) (return_statement (only (waiting_at (codes "g") (at + 7))))

-- `return value`
abbrev pub return_of : List ℕ → ℕ → Statement
return_of value at = doing at (at + 7 + length value) (return_statement (only (use_of value (at + 7))))

-- the result `error`
abbrev pub error_at : ℕ → Parameters
error_at at = unnamed_and false (use_of (codes "error") at) no_parameter

-- `func() error { .. }`, where `}` is the last byte before `end`
abbrev pub literal_to : ℕ → Statements → ℕ → Expression
literal_to end ss at =
    node at end (function_literal (signature_of no_parameter (error_at (at + 7)) false) ss (from_to (at + 13) end))

-- a literal that calls the cancel function at its return:
--     func() error {
--         defer cancel()
--         return nil
--     }
abbrev pub calling_block : ℕ → Statements
calling_block at =
    statement_and (doing (at + 17) (at + 31) (defer_statement (call_at (at + 23))))
    (statement_and (return_of (codes "nil") (at + 34))
    no_statement)

abbrev pub calling_literal : ℕ → Expression
calling_literal at = literal_to (at + 47) (calling_block at) at

-- one that starts another in a group:
--     func() error {
--         g.Go(inner)
--         return nil
--     }
abbrev pub starting_block : ℕ → Statements
starting_block at =
    statement_and (starting_inner (codes "g") (at + 17))
    (statement_and (return_of (codes "nil") (at + 31))
    no_statement)

abbrev pub starting_literal : ℕ → Expression
starting_literal at = literal_to (at + 44) (starting_block at) at

-- `func f(p context.Context, ..) .. { .. }`, with more parameters, results, and the offsets of its braces
abbrev pub function_between : Parameters → Parameters → ℕ → ℕ → Statements → Function
function_between more results from end ss = record {
  receiver = None;
  name = name (codes "f") 69;
  type_parameters = no_parameter;
  signature = signature_of (named_and (name (codes "p") 71) false (of_context (codes "Context") 73) more) results false;
  body = Some record { statements = ss; braces = from_to from end };
  span = from_to 64 end;
}

-- `func f(p context.Context) error { .. }`, where `}` is the last byte before `end`
abbrev pub function_to : ℕ → Statements → Function
function_to end ss = function_between no_parameter (error_at 90) 96 end ss

abbrev pub file_with : List Function → SourceFile
file_with fs = record {
  package_name = name (codes "a") 8;
  imports =
      record {
        specs =
            record { name = None; path = codes "context"; path_span = from_to 21 30; span = from_to 21 30 }
            ∷ record {
              name = None;
              path = codes "golang.org/x/sync/errgroup";
              path_span = from_to 32 60;
              span = from_to 32 60;
            }
            ∷ [];
        is_grouped = true;
        span = from_to 11 62;
      }
      ∷ [];
  declarations = map function_declaration fs;
  span = from_to 0 284;
}

-- a package of one file with these functions
abbrev pub loaded_of : List Function → LoadedPackage
loaded_of fs = record { path = codes "a"; edition = First; files = has_tree (file_with fs) ∷ [] }

abbrev pub program_of : List Function → Program
program_of fs = record {
  packages = loaded_of fs ∷ [];
  tables = no_tables;
  declared = no_tables;
  looked_at = 0;
  are_run = λ home. true;
}

-- one with this function alone
abbrev pub program_with : Function → Program
program_with f = program_of (f ∷ [])

-- Functions

-- a literal that a group starts calls the cancel function, and the function waits for the group
--     func f(p context.Context) error {
--         var g errgroup.Group
--         _, cancel := context.WithCancel(p)
--         g.Go(func() error {
--             defer cancel()
--             return nil
--         })
--         return g.Wait()
--     }
abbrev pub awaiting : Function
awaiting =
    function_to 229
    (statement_and (declared_at (codes "g") 99)
    (statement_and (binding_at 121)
    (statement_and (starting_to 210 (codes "g") (codes "Go") (calling_literal 162) 157)
    (statement_and (returning_wait 212)
    no_statement))))

-- The group may start the literal or not (LC05).
--     func f(p context.Context) error {
--         var g errgroup.Group
--         _, cancel := context.WithCancel(p)
--         g.TryGo(func() error {
--             defer cancel()
--             return nil
--         })
--         return g.Wait()
--     }
abbrev pub trying : Function
trying =
    function_to 232
    (statement_and (declared_at (codes "g") 99)
    (statement_and (binding_at 121)
    (statement_and (starting_to 213 (codes "g") (codes "TryGo") (calling_literal 165) 157)
    (statement_and (returning_wait 215)
    no_statement))))

-- a member of the group starts work in it
--     func f(p context.Context) error {
--         var g errgroup.Group
--         _, cancel := context.WithCancel(p)
--         g.Go(func() error {
--             defer cancel()
--             return nil
--         })
--         g.Go(func() error {
--             g.Go(inner)
--             return nil
--         })
--         return g.Wait()
--     }
abbrev pub joining : Function
joining =
    function_to 281
    (statement_and (declared_at (codes "g") 99)
    (statement_and (binding_at 121)
    (statement_and (starting_to 210 (codes "g") (codes "Go") (calling_literal 162) 157)
    (statement_and (starting_to 262 (codes "g") (codes "Go") (starting_literal 217) 212)
    (statement_and (returning_wait 264)
    no_statement)))))

-- A member of one group starts work in another one (LC09): of this use the machine tells nothing.
--     func f(p context.Context) error {
--         var g errgroup.Group
--         var h errgroup.Group
--         h.Go(func() error {
--             g.Go(inner)
--             return nil
--         })
--         if err := h.Wait(); err != nil {
--             return err
--         }
--         return g.Wait()
--     }
abbrev pub crossing : Function
crossing =
    function_to 262
    (statement_and (declared_at (codes "g") 99)
    (statement_and (declared_at (codes "h") 121)
    (statement_and (starting_to 193 (codes "h") (codes "Go") (starting_literal 148) 143)
    (statement_and (doing 195 243 (if_statement
    (present_statement (doing 198 213 (define_statement (name (codes "err") 198 ∷ [])
    (only (waiting_at (codes "h") 205)))))
    true (node 215 225 (binary_expression NotEqual (use_of (codes "err") 215) (use_of (codes "nil") 222)))
    (statement_and (return_of (codes "err") 230) no_statement) (from_to 226 243) missing_statement))
    (statement_and (returning_wait 245)
    no_statement)))))

-- One return does not wait for the group (LC07).
--     func f(p context.Context) error {
--         g, _ := errgroup.WithContext(p)
--         if p == nil {
--             return nil
--         }
--         g.Go(inner)
--         return g.Wait()
--     }
abbrev pub leaving_early : Function
leaving_early =
    function_to 193
    (statement_and (doing 99 130 (define_statement (name (codes "g") 99 ∷ name (codes "_") 102 ∷ [])
    (only (node 107 130 (call_expression (of_errgroup (codes "WithContext") 107)
    (only (use_of (codes "p") 128)) false)))))
    (statement_and (doing 132 161 (if_statement missing_statement false (test_at 135)
    (statement_and (return_of (codes "nil") 148) no_statement) (from_to 144 161) missing_statement))
    (statement_and (starting_inner (codes "g") 163)
    (statement_and (returning_wait 176)
    no_statement))))

-- `*errgroup.Group`
abbrev pub group_pointer_at : ℕ → Expression
group_pointer_at at = node at (at + 15) (star_expression (of_errgroup (codes "Group") (at + 1)))

-- the statements of the literal below
abbrev pub calling_at_once : Statements
calling_at_once =
    statement_and (doing 170 178 (expression_statement (call_at 170)))
    (statement_and (return_of (codes "nil") 181)
    no_statement)

-- The cancel function is left to a group of the caller's (LC10).
--     func f(p context.Context, g *errgroup.Group) {
--         _, cancel := context.WithCancel(p)
--         g.Go(func() error {
--             cancel()
--             return nil
--         })
--     }
abbrev pub leaving_to_parameter : Function
leaving_to_parameter =
    function_between
    (named_and (name (codes "g") 90) false (group_pointer_at 92) no_parameter)
    no_parameter 109 197
    (statement_and (binding_at 112)
    (statement_and (starting_to 195 (codes "g") (codes "Go") (literal_to 194 calling_at_once 153) 148)
    no_statement))

-- `new(errgroup.Group)`
abbrev pub new_group_at : ℕ → Expression
new_group_at at =
    node at (at + 19) (call_expression (use_of (codes "new") at) (only (of_errgroup (codes "Group") (at + 4))) false)

-- The variable gets another group while the work of the first may go on (LC08).
--     func f(p context.Context) {
--         g := new(errgroup.Group)
--         g.Go(inner)
--         g = new(errgroup.Group)
--     }
abbrev pub remaking : Function
remaking =
    function_between no_parameter no_parameter 90 157
    (statement_and (doing 93 117 (define_statement (name (codes "g") 93 ∷ []) (only (new_group_at 98))))
    (statement_and (starting_inner (codes "g") 119)
    (statement_and (doing 132 155 (assignment (only (use_of (codes "g") 132)) (only (new_group_at 136))))
    no_statement)))

-- The cancel function is left to another group than that which is waited for (LC07, LC10).
--     func f(p context.Context) error {
--         var g errgroup.Group
--         var h errgroup.Group
--         _, cancel := context.WithCancel(p)
--         h.Go(func() error {
--             defer cancel()
--             return nil
--         })
--         return g.Wait()
--     }
abbrev pub leaving_to_another : Function
leaving_to_another =
    function_to 251
    (statement_and (declared_at (codes "g") 99)
    (statement_and (declared_at (codes "h") 121)
    (statement_and (binding_at 143)
    (statement_and (starting_to 232 (codes "h") (codes "Go") (calling_literal 184) 179)
    (statement_and (returning_wait 234)
    no_statement)))))

-- The Wait is saved for the return.
--     func f(p context.Context) {
--         var g errgroup.Group
--         defer g.Wait()
--         g.Go(inner)
--     }
abbrev pub deferring_wait : Function
deferring_wait =
    function_between no_parameter no_parameter 90 144
    (statement_and (declared_at (codes "g") 93)
    (statement_and (doing 115 129 (defer_statement (waiting_at (codes "g") 121)))
    (statement_and (starting_inner (codes "g") 131)
    no_statement)))

-- the statements of the literal below
abbrev pub forgetting_block : Statements
forgetting_block =
    statement_and (binding_at 115)
    (statement_and (return_of (codes "nil") 152)
    no_statement)

-- A literal that something else gets than a tracked group, and that forgets its function (LC05).
--     func f(p context.Context) {
--         w.Go(func() error {
--             _, cancel := context.WithCancel(p)
--             return nil
--         })
--     }
abbrev pub handing_over : Function
handing_over =
    function_between no_parameter no_parameter 90 168
    (statement_and (starting_to 166 (codes "w") (codes "Go") (literal_to 165 forgetting_block 98) 93)
    no_statement)

-- The group is lent to the next function and not waited for (LC07).
--     func f(p context.Context) {
--         var g errgroup.Group
--         helper(&g)
--     }
abbrev pub lending_on : Function
lending_on =
    function_between no_parameter no_parameter 90 127
    (statement_and (declared_at (codes "g") 93)
    (statement_and (doing 115 125 (expression_statement (node 115 125 (call_expression
    (use_of (codes "helper") 115)
    (only (node 122 124 (unary_expression Address (use_of (codes "g") 123))))
    false))))
    no_statement))

-- which starts work in it, after an empty line:
--     func helper(g *errgroup.Group) {
--         g.Go(inner)
--     }
abbrev pub starting_there : Function
starting_there = record {
  receiver = None;
  name = name (codes "helper") 134;
  type_parameters = no_parameter;
  signature =
      signature_of (named_and (name (codes "g") 141) false (group_pointer_at 143) no_parameter) no_parameter false;
  body =
      Some record {
        statements = statement_and (starting_inner (codes "g") 163) no_statement;
        braces = from_to 160 176;
      };
  span = from_to 129 176;
}

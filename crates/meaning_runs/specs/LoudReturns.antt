-- Packages that lose a cancel function, without a group, and in other ways than those of `Examples`: each has a run
-- that comes to a return that is not quiet. The texts stand as they do there. A function that is discarded at once
-- (LC03) is bound to no variable, so no frame owes it, and no return tells of it.
use Rattle.std.specs.Prelude.{ℕ, ◌+◌, false, [], ◌∷◌, None, Some, codes}
use Rattle.tree.specs.declared.operator.BinaryOperator.TheVariants.{Equal}
use Rattle.tree.specs.Syntax.{Expression, function_literal, call_expression, binary_expression, no_expression, expression_and, no_parameter, named_and, signature_of, Statement, expression_statement, assignment, defer_statement, return_statement, if_statement, Statements, no_statement, statement_and, missing_statement, Function}
use Rattle.meaning_runs.specs.Examples.{from_to, node, doing, name, use_of, of_context, binding_at, call_at, function_to, program_with, passing}
use Rattle.meaning_runs.specs.Returns.{HasLoudReturn}

-- A function that does not call what it gets:
--     func g(c context.CancelFunc) {
--     }
abbrev pub ignoring_at : ℕ → Function
ignoring_at at = record {
  receiver = None;
  name = name (codes "g") (at + 5);
  type_parameters = no_parameter;
  signature =
      signature_of
      (named_and (name (codes "c") (at + 7)) false (of_context (codes "CancelFunc") (at + 9)) no_parameter)
      no_parameter false;
  body = Some record { statements = no_statement; braces = from_to (at + 29) (at + 32) };
  span = from_to at (at + 32);
}

-- the one to which `passing` gives its cancel function (LC06, LC05)
abbrev pub ignoring : Function
ignoring = ignoring_at 107

-- the call of such a function is saved for the return (LC06, LC05):
--     func f(p context.Context) {
--         _, cancel := context.WithCancel(p)
--         defer g(cancel)
--     }
abbrev pub deferring_pass : Function
deferring_pass =
    function_to 111
    (statement_and (binding_at 58)
    (statement_and (doing 94 109 (defer_statement (node 100 109 (call_expression
    (use_of (codes "g") 100)
    (expression_and (use_of (codes "cancel") 102) no_expression)
    false))))
    no_statement))

-- `defer func() { .. }()` at 94, where the literal ends before `end`
abbrev pub deferred_at : ℕ → Statements → ℕ → Statement
deferred_at literal_end ss end =
    doing 94 end (defer_statement (node 100 end (call_expression
    (node 100 literal_end (function_literal (signature_of no_parameter no_parameter false) ss
    (from_to 107 literal_end)))
    no_expression false)))

-- the literal that is saved calls nothing (LC05):
--     func f(p context.Context) {
--         _, cancel := context.WithCancel(p)
--         defer func() {}()
--     }
abbrev pub deferring_nothing : Function
deferring_nothing =
    function_to 113 (statement_and (binding_at 58) (statement_and (deferred_at 109 no_statement 111) no_statement))

-- `p == nil`
abbrev pub test_at : ℕ → Expression
test_at at = node at (at + 8) (binary_expression Equal (use_of (codes "p") at) (use_of (codes "nil") (at + 5)))

-- the function is used in another way (LC06, LC05):
--     func f(p context.Context) {
--         _, cancel := context.WithCancel(p)
--         _ = cancel
--     }
abbrev pub using : Function
using =
    function_to 106
    (statement_and (binding_at 58)
    (statement_and (doing 94 104 (assignment
    (expression_and (use_of (codes "_") 94) no_expression)
    (expression_and (use_of (codes "cancel") 98) no_expression)))
    no_statement))

-- one branch calls it (LC05):
--     func f(p context.Context) {
--         _, cancel := context.WithCancel(p)
--         if p == nil {
--             cancel()
--         }
--     }
abbrev pub branching : Function
branching =
    function_to 123
    (statement_and (binding_at 58)
    (statement_and (doing 94 121 (if_statement missing_statement false (test_at 97)
    (statement_and (doing 110 118 (expression_statement (call_at 110))) no_statement)
    (from_to 106 121) missing_statement))
    no_statement))

-- one branch returns before the call (LC05):
--     func f(p context.Context) {
--         _, cancel := context.WithCancel(p)
--         if p == nil {
--             return
--         }
--         cancel()
--     }
abbrev pub returning_early : Function
returning_early =
    function_to 131
    (statement_and (binding_at 58)
    (statement_and (doing 94 119 (if_statement missing_statement false (test_at 97)
    (statement_and (doing 110 116 (return_statement no_expression)) no_statement)
    (from_to 106 119) missing_statement))
    (statement_and (doing 121 129 (expression_statement (call_at 121)))
    no_statement)))

-- the literal that is saved calls it in one branch (LC05):
--     func f(p context.Context) {
--         _, cancel := context.WithCancel(p)
--         defer func() { if p == nil { cancel() } }()
--     }
abbrev pub deferring_branch : Function
deferring_branch =
    function_to 139
    (statement_and (binding_at 58)
    (statement_and (deferred_at 135
    (statement_and (doing 109 133 (if_statement missing_statement false (test_at 112)
    (statement_and (doing 123 131 (expression_statement (call_at 123))) no_statement)
    (from_to 121 133) missing_statement)) no_statement)
    137)
    no_statement))

pub record LostFunctionsAreSeen : Type 0 where
  pub ignoring_is_loud : HasLoudReturn (program_with (passing ∷ ignoring ∷ []))
  pub deferring_pass_is_loud : HasLoudReturn (program_with (deferring_pass ∷ ignoring_at 113 ∷ []))
  pub deferring_nothing_is_loud : HasLoudReturn (program_with (deferring_nothing ∷ []))
  pub deferring_branch_is_loud : HasLoudReturn (program_with (deferring_branch ∷ []))
  pub using_is_loud : HasLoudReturn (program_with (using ∷ []))
  pub branching_is_loud : HasLoudReturn (program_with (branching ∷ []))
  pub returning_early_is_loud : HasLoudReturn (program_with (returning_early ∷ []))

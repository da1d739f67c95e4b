-- Runs of small functions of the second edition that keep a cancel function in a field. Where the field is called, at
-- once or by a saved call, a run comes to a quiet return. Where nothing calls what the object keeps, or the object is
-- handed on before it keeps anything, a run comes to one that is not quiet. Where others get the function, by the
-- object, by the return or by a field of an object that they hold, the frame owes nothing at its return.
use Rattle.std.specs.Prelude.{◌≡◌, ℕ, true, [], ◌∷◌, Contains, codes}
use Rattle.tree.specs.declared.edition.Edition.TheVariants.{Second}
use Rattle.tree.specs.declared.operator.UnaryOperator.TheVariants.{Address}
use Rattle.tree.specs.Syntax.{composite_literal, unary_expression, no_expression, expression_and, StatementForm, expression_statement, assignment, defer_statement, no_statement, statement_and, Function}
use Rattle.meaning.specs.TreeExamples.{node, doing, use_of, only}
use Rattle.meaning.specs.KeptExamples.{member, call_with, making, keeping_literal, defining, function_of, made_before, with_last, file_of, of_t, calling, returning, passing, the_object, assigning, obtaining, pointer, pointing, the_function}
use Rattle.meaning_reports.specs.Loaded.{has_tree, LoadedPackage, no_tables}
use Rattle.meaning_runs.specs.Bodies.{Program}
use Rattle.meaning_runs.specs.World.{Frame, World}
use Rattle.meaning_runs.specs.Runs.{Run, IsReturning, Owes}
use Rattle.meaning_runs.specs.Returns.{HasQuietReturn, HasLoudReturn}

-- a package of the file with this function, and the program that it is
abbrev pub package_of : Function → LoadedPackage
package_of f = record { path = codes "a"; edition = Second; files = has_tree (file_of f) ∷ [] }

abbrev pub program_of : Function → Program
program_of f = record {
  packages = package_of f ∷ [];
  tables = no_tables;
  declared = no_tables;
  looked_at = 0;
  are_run = λ home. true;
}

-- `t.stop()`
abbrev pub calls_it : StatementForm
calls_it = expression_statement (calling (of_t (codes "stop")) no_expression)

-- `_, c := context.WithCancel(p)`, `t := &T{stop: c}`, and one of these: nothing, `t.stop()`, `defer t.stop()`,
-- `reg(t)`, `return t`
abbrev pub keeping_alone : Function
keeping_alone =
    function_of (made_before (statement_and (defining (codes "t") (keeping_literal 185) 180) no_statement))

abbrev pub calling_field : Function
calling_field = with_last calls_it

abbrev pub deferring_field : Function
deferring_field = with_last (defer_statement (calling (of_t (codes "stop")) no_expression))

abbrev pub giving_object : Function
giving_object = with_last (passing (codes "reg") the_object)

abbrev pub returning_object : Function
returning_object = with_last (returning the_object)

-- `t := &T{}`, `t.ctx, t.stop = context.WithCancel(p)`, and `t.stop()`
abbrev pub obtaining_and_calling : Function
obtaining_and_calling =
    function_of (statement_and (defining (codes "t")
    (node 185 200 (unary_expression Address (node 186 200 (composite_literal (use_of (codes "T") 186) no_expression))))
    180)
    (statement_and (doing 220 300 (assignment
    (expression_and (member (codes "t") 220 (codes "ctx") 222) (only (member (codes "t") 230 (codes "stop") 232)))
    (only (making 250))))
    (statement_and (doing 310 340 (expression_statement
    (call_with (member (codes "t") 310 (codes "stop") 312) no_expression 310))) no_statement)))

-- `_, c := context.WithCancel(p)`, `t := &T{}`, `return t`, and `t.stop = c` behind it
abbrev pub returning_early : Function
returning_early =
    function_of (made_before (statement_and (defining (codes "t")
    (node 185 200 (unary_expression Address (node 186 200 (composite_literal (use_of (codes "T") 186) no_expression))))
    180)
    (statement_and (doing 220 250 (returning the_object))
    (statement_and (doing 260 300
    (assigning (member (codes "t") 260 (codes "stop") 262) (use_of (codes "c") 275))) no_statement))))

-- `t.stop = c`, where t is a parameter
abbrev pub giving_in_field : Function
giving_in_field = pointing pointer (assigning (of_t (codes "stop")) the_function)

-- the frame obtained a function, and owes none
pub record ComesToFreeReturn (p : Program) (w : World) (f : Frame) : Type 0 where
  pub run : Run p w
  pub is_returning : IsReturning w f
  pub is_of_package : f.body.home ≡ p.looked_at
  pub obtained : ℕ
  pub was_obtained : Contains f.obtained obtained
  pub owes_none : (a : ℕ) → Owes f a → ⊥

abbrev pub HasFreeReturn : Program → Type 0
HasFreeReturn p = (w : World) × (f : Frame) × ComesToFreeReturn p w f

pub record FieldReturnsExist : Type 0 where
  pub calling_is_quiet : HasQuietReturn (program_of calling_field)
  pub deferring_is_quiet : HasQuietReturn (program_of deferring_field)
  pub obtaining_is_quiet : HasQuietReturn (program_of obtaining_and_calling)
  pub keeping_is_loud : HasLoudReturn (program_of keeping_alone)
  pub obtaining_is_loud : HasLoudReturn (program_of obtaining)
  pub returning_early_is_loud : HasLoudReturn (program_of returning_early)
  pub giving_is_free : HasFreeReturn (program_of giving_object)
  pub returning_is_free : HasFreeReturn (program_of returning_object)
  pub giving_in_field_is_free : HasFreeReturn (program_of giving_in_field)

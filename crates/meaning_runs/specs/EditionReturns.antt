-- Runs of small functions of the second edition, which call a cancel function only where it is not nil, or only where
-- it is: of the one a run comes to a quiet return, of the other to one that is not quiet.
use Rattle.std.specs.Prelude.{true, false, List, [], ◌∷◌, codes}
use Rattle.tree.specs.declared.edition.Edition.TheVariants.{Second}
use Rattle.tree.specs.declared.operator.BinaryOperator.{BinaryOperator}
use Rattle.tree.specs.declared.operator.BinaryOperator.TheVariants.{Equal, NotEqual}
use Rattle.tree.specs.Syntax.{binary_expression, expression_statement, if_statement, no_statement, statement_and, missing_statement, Function}
use Rattle.meaning_reports.specs.Loaded.{has_tree, LoadedPackage, no_tables}
use Rattle.meaning_runs.specs.Bodies.{Program}
use Rattle.meaning_runs.specs.Examples.{from_to, node, doing, use_of, binding_at, call_at, function_to, file_with}
use Rattle.meaning_runs.specs.Returns.{HasQuietReturn, HasLoudReturn}

-- a package of one file with these functions, and the program that it is
abbrev pub second_of : List Function → LoadedPackage
second_of fs = record { path = codes "a"; edition = Second; files = has_tree (file_with fs) ∷ [] }

abbrev pub second_with : List Function → Program
second_with fs = record {
  packages = second_of fs ∷ [];
  tables = no_tables;
  declared = no_tables;
  looked_at = 0;
  are_run = λ home. true;
}

-- the function is called where it is not nil, or with `==` where it is nil (LC05):
--     func f(p context.Context) {
--         _, cancel := context.WithCancel(p)
--         if cancel != nil {
--             cancel()
--         }
--     }
abbrev pub guarding : BinaryOperator → Function
guarding op =
    function_to 128
    (statement_and (binding_at 58)
    (statement_and (doing 94 126 (if_statement missing_statement false
    (node 97 110 (binary_expression op (use_of (codes "cancel") 97) (use_of (codes "nil") 107)))
    (statement_and (doing 115 123 (expression_statement (call_at 115))) no_statement)
    (from_to 111 126) missing_statement))
    no_statement))

pub record EditionReturnsExist : Type 0 where
  pub guarding_is_quiet : HasQuietReturn (second_with (guarding NotEqual ∷ []))
  pub guarding_nil_is_loud : HasLoudReturn (second_with (guarding Equal ∷ []))

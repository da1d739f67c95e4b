-- Statements to try `fallthrough` and `goto` on, where the sites of a body say nothing. Each stands in a comment above
-- its tree.
-- (The Go specification, "Fallthrough statements", "Goto statements".)
use Rattle.std.specs.Prelude.{ℕ, false, List, [], ◌∷◌, map, codes}
use Rattle.tree.specs.Syntax.{no_expression, expression_and, missing_expression, Statement, statement_node, labeled_statement, expression_statement, goto_statement, fallthrough_statement, switch_statement, Statements, no_statement, statement_and, missing_statement, no_case, case_and}
use Rattle.meaning.specs.Code.{Occurrence}
use Rattle.meaning.specs.Lists.{falls, Lists}
use Rattle.meaning.specs.StatementCode.{Sites, statement_code, block_code}
use Rattle.meaning.specs.NameExamples.{bytes_to, named, used}

abbrev pub silent_sites : Sites ℕ
silent_sites = record { other = 0; events = λ at. []; panics = λ at. false; returns = 1 }

-- one event that says nothing at each of these offsets
abbrev pub silent_at : List ℕ → List (Occurrence ℕ)
silent_at = map (λ at. record { at = at; order = 0; event = 0 })

-- `switch { case x: fallthrough; default: }`
abbrev pub falling_switch : Statement
falling_switch =
    statement_node (switch_statement missing_statement false missing_expression
    (case_and (expression_and (used (codes "x") 14) no_expression)
    (statement_and (statement_node fallthrough_statement (bytes_to 17 28)) no_statement) (bytes_to 9 29)
    (case_and no_expression no_statement (bytes_to 30 38) no_case)))
    (bytes_to 0 40)

-- `L: x; goto L`
abbrev pub jumping_statements : Statements
jumping_statements =
    statement_and (statement_node (labeled_statement (named (codes "L") 0)
    (statement_node (expression_statement (used (codes "x") 3)) (bytes_to 3 4))) (bytes_to 0 4))
    (statement_and (statement_node (goto_statement (named (codes "L") 11)) (bytes_to 6 12)) no_statement)

pub record FallingAndJumping : Type 0 where
  -- the header comes again, and then any clause
  pub falls_again : Lists (statement_code silent_sites [] falling_switch)
      (silent_at (0 ∷ 9 ∷ 17 ∷ 0 ∷ 9 ∷ 17 ∷ 0 ∷ 30 ∷ []))
      falls
  -- any order, and each as often as may be
  pub jumps : Lists (block_code silent_sites jumping_statements) (silent_at (6 ∷ 3 ∷ 3 ∷ 6 ∷ [])) falls
  pub jumps_past_all : Lists (block_code silent_sites jumping_statements) [] falls

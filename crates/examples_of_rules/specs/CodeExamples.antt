-- Statements and their codes, where the sites of a body say nothing. Each stands in a comment above its tree.
-- (The Go specification, "If statements", "For statements", "Switch statements", "Select statements", "Labeled
-- statements", "Handling panics".)
use Rattle.std.specs.Prelude.{ℕ, ◌≡◌, true, false, List, [], ◌∷◌, None, Some, codes}
use Rattle.tree.specs.Syntax.{no_expression, missing_expression, present_expression, Statement, labeled_statement, return_statement, break_statement, continue_statement, block_statement, if_statement, for_statement, range_definition, switch_statement, select_statement, OptionalStatement, missing_statement, present_statement, CaseClauses, no_case, case_and, no_communication, communication_and}
use Rattle.meaning.specs.Code.{returning, breaking, continuing, Code, skip, does, leave, then_code, either, repeats, up_to}
use Rattle.meaning.specs.StatementCode.{Sites, stuck, statement_code, body_code}
use Rattle.meaning.specs.TreeExamples.{from_to, doing, name, use_of, only}
use Rattle.examples_of_rules.specs.Trees.{block, doing_alone}

abbrev pub silent : Sites ℕ
silent = record { other = 0; events = λ at. []; panics = λ at. false; returns = 1 }

-- each expression statement is a call of `panic`
abbrev pub panicking : Sites ℕ
panicking = record { other = 0; events = λ at. []; panics = λ at. true; returns = 1 }

-- the event at a site, which says nothing
abbrev pub event : ℕ → Code ℕ
event at = then_code (does record { at = at; order = 0; event = 0 }) skip

abbrev pub code_of : Statement → Code ℕ
code_of = statement_code silent []

-- a statement of one letter
abbrev pub one : List ℕ → ℕ → Statement
one letter at = doing_alone (use_of letter at) at

-- `if x { a }`, and what stands behind it
abbrev pub branching : OptionalStatement → Statement
branching otherwise =
    doing 0 25 (if_statement missing_statement false (use_of (codes "x") 3) (block (one (codes "a") 7 ∷ []))
    (from_to 5 10) otherwise)

-- `{ b }`
abbrev pub otherwise_block : OptionalStatement
otherwise_block =
    present_statement (doing 16 21 (block_statement (block (one (codes "b") 18 ∷ [])) (from_to 16 21)))

-- `L: for x { continue L; break }`
abbrev pub labeled_loop : Statement
labeled_loop =
    doing 0 30 (labeled_statement (name (codes "L") 0)
    (doing 3 30 (for_statement missing_statement (present_expression (use_of (codes "x") 7)) missing_statement false
    (block (doing 11 21 (continue_statement (Some (name (codes "L") 20))) ∷ doing 23 28 (break_statement None) ∷ []))
    (from_to 9 30))))

-- `for { a }`
abbrev pub endless_loop : Statement
endless_loop =
    doing 0 9 (for_statement missing_statement missing_expression missing_statement false
    (block (one (codes "a") 6 ∷ [])) (from_to 4 9))

-- `for i := range x { a }`
abbrev pub ranging : Statement
ranging =
    doing 0 22 (range_definition (name (codes "i") 4 ∷ []) (use_of (codes "x") 15) (block (one (codes "a") 19 ∷ []))
    (from_to 17 22))

-- `default: b`
abbrev pub by_default : CaseClauses
by_default = case_and no_expression (block (one (codes "b") 31 ∷ [])) (from_to 22 33) no_case

-- `switch x { case y: a }`, and more clauses
abbrev pub switching : CaseClauses → Statement
switching clauses =
    doing 0 40 (switch_statement missing_statement false (present_expression (use_of (codes "x") 7))
    (case_and (only (use_of (codes "y") 16)) (block (one (codes "a") 19 ∷ [])) (from_to 11 20) clauses))

-- `select { case y: a }`
abbrev pub selecting : Statement
selecting =
    doing 0 22 (select_statement (communication_and (present_statement (one (codes "y") 14))
    (block (one (codes "a") 17 ∷ [])) (from_to 9 18) no_communication))

-- `a`, and then what follows in its list of statements
abbrev pub a_then : ℕ → Code ℕ → Code ℕ
a_then at = then_code (event at)

pub record StatementsAreCodes : Type 0 where
  pub with_else : code_of (branching otherwise_block)
      ≡ then_code skip (then_code (event 0) (either (a_then 7 skip) (a_then 18 skip)))
  -- past the block where there is no `else`
  pub without_else : code_of (branching missing_statement)
      ≡ then_code skip (then_code (event 0) (either (a_then 7 skip) skip))
  -- the header comes before each turn, and may end the loop; a label is one more end
  pub with_a_label : code_of labeled_loop
      ≡ then_code skip (up_to (breaking None) (up_to (breaking (Some (codes "L"))) (repeats (then_code (event 3)
      (either (leave (breaking None)) (then_code (up_to (continuing None) (up_to (continuing (Some (codes "L")))
      (then_code (then_code (event 11) (leave (continuing (Some (codes "L")))))
      (then_code (then_code (event 23) (leave (breaking None))) skip)))) skip))))))
  -- without a condition nothing but a `break` ends it
  pub without_a_condition : code_of endless_loop
      ≡ then_code skip (up_to (breaking None) (repeats (then_code (event 0)
      (then_code (up_to (continuing None) (a_then 6 skip)) skip))))
  pub over_a_range : code_of ranging
      ≡ up_to (breaking None) (repeats (then_code (event 0) (either (leave (breaking None))
      (then_code (up_to (continuing None) (a_then 19 skip)) skip))))
  -- no clause may fit
  pub without_default : code_of (switching no_case)
      ≡ then_code skip (then_code (event 0) (up_to (breaking None)
      (either (then_code (event 11) (a_then 19 skip)) skip)))
  pub with_default : code_of (switching by_default)
      ≡ then_code skip (then_code (event 0) (up_to (breaking None)
      (either (then_code (event 11) (a_then 19 skip)) (then_code (event 22) (a_then 31 skip)))))
  -- what a clause waits for is no site of its own
  pub with_a_clause : code_of selecting
      ≡ then_code (event 0) (up_to (breaking None) (then_code (event 9) (a_then 17 skip)))
  -- nothing follows a `select` without clauses
  pub without_clauses : code_of (doing 0 9 (select_statement no_communication))
      ≡ then_code (event 0) (up_to (breaking None) stuck)
  pub of_a_return : code_of (doing 0 6 (return_statement no_expression)) ≡ then_code (event 0) (leave returning)
  pub of_a_panic : statement_code panicking [] (one (codes "a") 0) ≡ then_code (event 0) stuck
  -- an event at the first brace, and a return at the last one
  pub of_a_body : body_code silent record { statements = block (one (codes "a") 5 ∷ []); braces = from_to 0 20 }
      ≡ then_code (does record { at = 0; order = 0; event = 0 }) (then_code (a_then 5 skip)
      (does record { at = 19; order = 0; event = 1 }))

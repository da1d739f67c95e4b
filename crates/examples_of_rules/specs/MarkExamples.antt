-- Statements, and what their places ask of the names in them, in the order in which the statements do what they say.
-- Each statement stands in a comment above its tree. (The Go specification, "Expression statements", "Assignment
-- statements", "Calls", "Defer statements", "Go statements", "Return statements".)
use Rattle.std.specs.Prelude.{ℕ, ◌+◌, ◌≡◌, false, true, List, [], ◌∷◌, codes}
use Rattle.tree.specs.declared.operator.UnaryOperator.TheVariants.{Address}
use Rattle.tree.specs.Syntax.{Expression, parenthesized, unary_expression, Expressions, no_expression, Statement, increment_statement, assignment, define_statement, go_statement, defer_statement, return_statement}
use Rattle.meaning.specs.Mentions.{bare, RowForm, defines, assigns, ordinary, Row, CallPlace, nowhere, as_statement, only_value, deferred, under_go, Call, Role, elsewhere, exposed, pointed_to, called, called_in_brackets, argument, returned, left, Mark, mentions, statement_marks}
use Rattle.meaning.specs.TreeExamples.{node, doing, name, use_of, only}
use Rattle.examples_of_rules.specs.Trees.{call_of, calling, expressions, doing_alone}

abbrev pub roles_among : List Mark → List Role
roles_among [] = []
roles_among (mentions m ∷ ms) = m.role ∷ roles_among ms
roles_among (m ∷ ms) = roles_among ms

-- what a statement asks of the names in it
abbrev pub roles_in : Statement → List Role
roles_in s = roles_among (statement_marks ordinary s)

-- a call of `h` or `c` that stands there
abbrev pub called_at : List ℕ → ℕ → Expressions → CallPlace → Call
called_at n at es place = record { callee = bare n at; arguments = es; has_ellipsis = false; place = place }

abbrev pub row_of : RowForm → Expressions → Row
row_of form values = record { form = form; values = values; statement = 100; standing = ordinary }

-- `c, &d`
abbrev pub arguments : Expressions
arguments =
    expressions
    (use_of (codes "c") 102 ∷ node 105 107 (unary_expression Address (use_of (codes "d") 106)) ∷ [])

-- `x, c`
abbrev pub lefts : Expressions
lefts = expressions (use_of (codes "x") 100 ∷ use_of (codes "c") 103 ∷ [])

-- `h(d), q`
abbrev pub rights : Expressions
rights = expressions (calling (codes "h") (only (use_of (codes "d") 109)) 107 ∷ use_of (codes "q") 112 ∷ [])

-- `h(d)`
abbrev pub one_right : Expressions
one_right = only (calling (codes "h") (only (use_of (codes "d") 109)) 107)

-- `(c)`
abbrev pub bracketed : ℕ → Expression
bracketed at = node at (at + 3) (parenthesized (use_of (codes "c") (at + 1)))

-- `&c`
abbrev pub address : Expressions
address = only (node 105 107 (unary_expression Address (use_of (codes "c") 106)))

pub record PlacesAskOfNames : Type 0 where
  -- `h(c, &d)`: arguments come before their callee
  pub of_a_call : roles_in (doing_alone (calling (codes "h") arguments 100) 100)
      ≡ argument 0 false (called_at (codes "h") 100 arguments as_statement)
      ∷ argument 1 true (called_at (codes "h") 100 arguments as_statement)
      ∷ called (called_at (codes "h") 100 arguments as_statement) ∷ []
  -- `x, c = h(d), q`: values come before left sides, and a call beside another value stands nowhere as a whole
  pub of_a_row : roles_in (doing 100 113 (assignment lefts rights))
      ≡ argument 0 false (called_at (codes "h") 107 (only (use_of (codes "d") 109)) nowhere)
      ∷ called (called_at (codes "h") 107 (only (use_of (codes "d") 109)) nowhere)
      ∷ elsewhere ∷ left 0 (row_of (assigns lefts) rights) ∷ left 1 (row_of (assigns lefts) rights) ∷ []
  -- `x, c = h(d)`: there it is the only value
  pub of_an_only_value : roles_in (doing 100 113 (assignment lefts one_right))
      ≡ argument 0 false
      (called_at (codes "h") 107 (only (use_of (codes "d") 109)) (only_value (row_of (assigns lefts) one_right)))
      ∷ called
      (called_at (codes "h") 107 (only (use_of (codes "d") 109)) (only_value (row_of (assigns lefts) one_right)))
      ∷ left 0 (row_of (assigns lefts) one_right) ∷ left 1 (row_of (assigns lefts) one_right) ∷ []
  -- `p := &c`
  pub of_an_address : roles_in (doing 100 107 (define_statement (name (codes "p") 100 ∷ []) address))
      ≡ pointed_to ∷ left 0 (row_of (defines (name (codes "p") 100 ∷ [])) address) ∷ []
  -- `return c, (c)`: what stands in brackets stands elsewhere
  pub of_a_return : roles_in (doing 100 113 (return_statement (expressions
      (use_of (codes "c") 107 ∷ bracketed 110 ∷ []))))
      ≡ returned 0 ∷ elsewhere ∷ []
  -- `(c)()`
  pub of_a_callee_in_brackets : roles_in (doing_alone (call_of (bracketed 100) no_expression 100) 100)
      ≡ called_in_brackets ∷ []
  -- `c++`
  pub of_an_increment : roles_in (doing 100 103 (increment_statement (use_of (codes "c") 100))) ≡ exposed ∷ []
  -- `defer c()`, `go c()`
  pub of_a_deferred_call : roles_in (doing 100 109 (defer_statement (calling (codes "c") no_expression 106)))
      ≡ called (called_at (codes "c") 106 no_expression deferred) ∷ []
  pub of_a_goroutine : roles_in (doing 100 106 (go_statement (calling (codes "c") no_expression 103)))
      ≡ called (called_at (codes "c") 103 no_expression under_go) ∷ []

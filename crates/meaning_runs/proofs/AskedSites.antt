-- The sites of the code of statements: those at which it asks for events, and those of its returns and declarations, where
-- it asks for none or for those of other sites.
use Rattle.std.proofs.Common.{◌≡◌, ℕ, List, [], ◌∷◌, ◌++◌, Contains}
use Rattle.std.specs.Prelude.{◌-◌}
use Rattle.meaning.specs.Mentions.{BodyPlace}
use Rattle.tree.specs.Syntax.{Statement, statement_node, StatementForm, empty_statement, declaration_statement, labeled_statement, expression_statement, send_statement, increment_statement, decrement_statement, assignment, operator_assignment, define_statement, go_statement, defer_statement, return_statement, break_statement, continue_statement, goto_statement, fallthrough_statement, block_statement, if_statement, for_statement, range_assignment, range_definition, switch_statement, type_switch_statement, select_statement, Statements, no_statement, statement_and, OptionalStatement, missing_statement, present_statement, CaseClauses, no_case, case_and, CommunicationClauses, no_communication, communication_and, Declaration, declaration_of, Specs, no_spec, value_and, type_and}

pub data CodeSite : Type 0 where
  asked_at : ℕ → CodeSite
  unasked_at : ℕ → CodeSite

abbrev pub place_of : CodeSite → ℕ
place_of (asked_at s) = s
place_of (unasked_at s) = s

-- no two of them have one place
abbrev pub AreDistinct : List CodeSite → Type 0
AreDistinct [] = Unit {0}
AreDistinct (s ∷ ss) = ((t : CodeSite) → Contains ss t → place_of s ≡ place_of t → ⊥) × AreDistinct ss

-- each spec has a site of its own
abbrev pub asked_specs : Specs → List CodeSite
asked_specs no_spec = []
asked_specs (value_and ns t es span specs) = asked_at span.start ∷ asked_specs specs
asked_specs (type_and n ps is_alias t span specs) = asked_at span.start ∷ asked_specs specs

-- those of a declaration inside a function; its events stand where it begins
abbrev pub asked_declaration : Declaration → List CodeSite
asked_declaration (declaration_of keyword specs is_grouped span) = unasked_at span.start ∷ asked_specs specs

-- a site for each form to which the code gives events, and those of the statements in it
unfoldable mutual
  pub asked_statement : Statement → List CodeSite
  asked_statement (statement_node form span) = asked_form span.start form

  pub asked_form : ℕ → StatementForm → List CodeSite
  asked_form at empty_statement = []
  asked_form at (declaration_statement d) = asked_declaration d
  asked_form at (labeled_statement n s) = asked_statement s
  asked_form at (expression_statement e) = asked_at at ∷ []
  asked_form at (send_statement c v) = asked_at at ∷ []
  asked_form at (increment_statement e) = asked_at at ∷ []
  asked_form at (decrement_statement e) = asked_at at ∷ []
  asked_form at (assignment ls rs) = asked_at at ∷ []
  asked_form at (operator_assignment op l r) = asked_at at ∷ []
  asked_form at (define_statement ns rs) = asked_at at ∷ []
  asked_form at (go_statement e) = asked_at at ∷ []
  asked_form at (defer_statement e) = asked_at at ∷ []
  asked_form at (return_statement es) = unasked_at at ∷ []
  asked_form at (break_statement n) = asked_at at ∷ []
  asked_form at (continue_statement n) = asked_at at ∷ []
  asked_form at (goto_statement n) = asked_at at ∷ []
  asked_form at fallthrough_statement = asked_at at ∷ []
  asked_form at (block_statement ss braces) = asked_statements ss
  asked_form at (if_statement init has_semicolon c ss braces otherwise) =
      asked_at at
      ∷ (asked_optional init ++ ((asked_at braces.start ∷ asked_statements ss)
      ++ (asked_at (braces.end - 1) ∷ asked_optional otherwise)))
  asked_form at (for_statement init c post has_semicolons ss braces) =
      asked_at at ∷ ((asked_optional init ++ asked_optional post) ++ asked_statements ss)
  asked_form at (range_assignment ls e ss braces) = asked_at at ∷ asked_statements ss
  asked_form at (range_definition ns e ss braces) = asked_at at ∷ asked_statements ss
  asked_form at (switch_statement init has_semicolon tag cs) = asked_at at ∷ (asked_optional init ++ asked_cases cs)
  asked_form at (type_switch_statement init has_semicolon n e cs) = asked_at at ∷ (asked_optional init ++ asked_cases cs)
  asked_form at (select_statement cs) = asked_at at ∷ asked_communications cs

  pub asked_optional : OptionalStatement → List CodeSite
  asked_optional missing_statement = []
  asked_optional (present_statement s) = asked_statement s

  pub asked_statements : Statements → List CodeSite
  asked_statements no_statement = []
  asked_statements (statement_and s ss) = asked_statement s ++ asked_statements ss

  pub asked_cases : CaseClauses → List CodeSite
  asked_cases no_case = []
  asked_cases (case_and es ss span cs) = (asked_at span.start ∷ asked_statements ss) ++ asked_cases cs

  -- what a clause waits for is asked for nothing
  pub asked_communications : CommunicationClauses → List CodeSite
  asked_communications no_communication = []
  asked_communications (communication_and c ss span cs) =
      (asked_at span.start ∷ asked_statements ss) ++ asked_communications cs

-- those of a body: its first brace, its statements, and its last brace
abbrev pub asked_body : BodyPlace → List CodeSite
asked_body b =
    unasked_at b.braces.start ∷ (asked_statements b.statements ++ unasked_at (b.braces.end - 1) ∷ [])

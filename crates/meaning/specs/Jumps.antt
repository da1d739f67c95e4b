-- What stands in a body, where nothing is known of its order: each of its statements, those in blocks too, each header
-- and each clause. So a body is looked at in which a `goto` stands, and not in a literal. Empty statements, labels and
-- blocks are no parts: they give no events. (The Go specification, "Goto statements", "Labeled statements".)
use Rattle.std.specs.Prelude.{ℕ, List, [], ◌∷◌, ◌++◌}
use Rattle.tree.specs.Syntax.{Statement, statement_node, StatementForm, empty_statement, declaration_statement, labeled_statement, return_statement, goto_statement, block_statement, if_statement, for_statement, range_assignment, range_definition, switch_statement, type_switch_statement, select_statement, Statements, no_statement, statement_and, OptionalStatement, missing_statement, present_statement, CaseClauses, no_case, case_and, CommunicationClauses, no_communication, communication_and, Declaration}

-- parts by their offsets
pub data Part : Type 0 where
  declaration_part : Declaration → Part
  return_part : ℕ → Part
  goto_part : ℕ → Part
  -- another simple statement, a header or a clause
  plain_part : ℕ → Part

unfoldable mutual
  pub statement_parts : Statement → List Part
  statement_parts (statement_node form span) = form_parts span.start form

  pub form_parts : ℕ → StatementForm → List Part
  form_parts at empty_statement = []
  form_parts at (declaration_statement d) = declaration_part d ∷ []
  form_parts at (labeled_statement n s) = statement_parts s
  form_parts at (return_statement es) = return_part at ∷ []
  form_parts at (goto_statement n) = goto_part at ∷ []
  form_parts at (block_statement ss braces) = parts_of ss
  form_parts at (if_statement init has_semicolon c ss braces otherwise) =
      optional_parts init ++ (plain_part at ∷ (parts_of ss ++ optional_parts otherwise))
  form_parts at (for_statement init c post has_semicolons ss braces) =
      optional_parts init ++ (plain_part at ∷ (parts_of ss ++ optional_parts post))
  form_parts at (range_assignment ls e ss braces) = plain_part at ∷ parts_of ss
  form_parts at (range_definition ns e ss braces) = plain_part at ∷ parts_of ss
  form_parts at (switch_statement init has_semicolon tag cs) = optional_parts init ++ (plain_part at ∷ cases_parts cs)
  form_parts at (type_switch_statement init has_semicolon n e cs) =
      optional_parts init ++ (plain_part at ∷ cases_parts cs)
  form_parts at (select_statement cs) = plain_part at ∷ communications_parts cs
  form_parts at form = plain_part at ∷ []

  pub parts_of : Statements → List Part
  parts_of no_statement = []
  parts_of (statement_and s ss) = statement_parts s ++ parts_of ss

  pub optional_parts : OptionalStatement → List Part
  optional_parts missing_statement = []
  optional_parts (present_statement s) = statement_parts s

  pub cases_parts : CaseClauses → List Part
  cases_parts no_case = []
  cases_parts (case_and es ss span cs) = plain_part span.start ∷ (parts_of ss ++ cases_parts cs)

  pub communications_parts : CommunicationClauses → List Part
  communications_parts no_communication = []
  communications_parts (communication_and c ss span cs) =
      plain_part span.start ∷ (parts_of ss ++ communications_parts cs)

-- the `goto`s among these, by their offsets
abbrev pub jumps_among : List Part → List ℕ
jumps_among [] = []
jumps_among (goto_part at ∷ ps) = at ∷ jumps_among ps
jumps_among (p ∷ ps) = jumps_among ps

abbrev pub jumps_in : Statements → List ℕ
jumps_in ss = jumps_among (parts_of ss)

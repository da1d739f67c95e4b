-- The statements of a body that branch, and which branch was taken, by where the next occurrence of the way stands.
-- Each header and each clause that is entered is a site, and so has an occurrence, at its first token. What stands
-- behind an `if` comes next too where the block gives no occurrence: then the condition holds. (The Go specification,
-- "If statements", "For statements", "Switch statements", "Select statements".)
use Rattle.std.specs.Prelude.{ℕ, ◌-◌, ◌==◌, not, ◌&&◌, ◌||◌, Bool, true, false, if◌then◌else◌, List, [], ◌∷◌, ◌++◌, nat_le, nat_lt}
use Rattle.std.specs.List.{list_any}
use Rattle.reasons.specs.Words.{Word, holds, does_not_hold, goes_on, ends, entered, none_entered}
use Rattle.tree.specs.declared.span.Span.{Span}
use Rattle.tree.specs.Syntax.{Statement, statement_node, StatementForm, empty_statement, declaration_statement, labeled_statement, block_statement, if_statement, for_statement, range_assignment, range_definition, switch_statement, type_switch_statement, select_statement, Statements, no_statement, statement_and, OptionalStatement, missing_statement, present_statement, CaseClauses, no_case, case_and, CommunicationClauses, no_communication, communication_and, declaration_of, no_spec}

-- Which statements branch

pub data BranchForm : Type 0 where
  -- an `if`: its block's braces, and whether the block gives no occurrence
  if_form : Span → Bool → BranchForm
  loop_form : BranchForm
  -- a `switch` or `select`: the offsets of its clauses
  clauses_form : List ℕ → BranchForm

-- the statement's span; its header's site stands where it begins
pub record Branch : Type 0 where
  pub span : Span
  pub form : BranchForm

-- they give no occurrence: there is no event, and no site
unfoldable mutual
  pub is_silent_form : StatementForm → Bool
  is_silent_form empty_statement = true
  is_silent_form (declaration_statement (declaration_of keyword no_spec is_grouped span)) = true
  is_silent_form (labeled_statement n (statement_node form span)) = is_silent_form form
  is_silent_form (block_statement ss braces) = are_silent ss
  is_silent_form form = false

  pub are_silent : Statements → Bool
  are_silent no_statement = true
  are_silent (statement_and (statement_node form span) ss) = is_silent_form form && are_silent ss

abbrev pub case_offsets : CaseClauses → List ℕ
case_offsets no_case = []
case_offsets (case_and es ss span cs) = span.start ∷ case_offsets cs

abbrev pub communication_offsets : CommunicationClauses → List ℕ
communication_offsets no_communication = []
communication_offsets (communication_and c ss span cs) = span.start ∷ communication_offsets cs

abbrev pub branch_of : Span → BranchForm → List Branch
branch_of span form = record { span = span; form = form } ∷ []

-- those of statements and of what stands in them, but for literals, in the order of the text
unfoldable mutual
  pub statement_branches : Statement → List Branch
  statement_branches (statement_node form span) = form_branches span form

  pub form_branches : Span → StatementForm → List Branch
  form_branches span (labeled_statement n s) = statement_branches s
  form_branches span (block_statement ss braces) = branches_of ss
  form_branches span (if_statement init has_semicolon c ss braces otherwise) =
      optional_branches init
      ++ (branch_of span (if_form braces (are_silent ss)) ++ (branches_of ss ++ optional_branches otherwise))
  form_branches span (for_statement init c post has_semicolons ss braces) =
      optional_branches init ++ (branch_of span loop_form ++ (branches_of ss ++ optional_branches post))
  form_branches span (range_assignment ls e ss braces) = branch_of span loop_form ++ branches_of ss
  form_branches span (range_definition ns e ss braces) = branch_of span loop_form ++ branches_of ss
  form_branches span (switch_statement init has_semicolon tag cs) =
      optional_branches init ++ (branch_of span (clauses_form (case_offsets cs)) ++ case_branches cs)
  form_branches span (type_switch_statement init has_semicolon n e cs) =
      optional_branches init ++ (branch_of span (clauses_form (case_offsets cs)) ++ case_branches cs)
  form_branches span (select_statement cs) =
      branch_of span (clauses_form (communication_offsets cs)) ++ communication_branches cs
  form_branches span form = []

  pub branches_of : Statements → List Branch
  branches_of no_statement = []
  branches_of (statement_and s ss) = statement_branches s ++ branches_of ss

  pub optional_branches : OptionalStatement → List Branch
  optional_branches missing_statement = []
  optional_branches (present_statement s) = statement_branches s

  pub case_branches : CaseClauses → List Branch
  case_branches no_case = []
  case_branches (case_and es ss span cs) = branches_of ss ++ case_branches cs

  pub communication_branches : CommunicationClauses → List Branch
  communication_branches no_communication = []
  communication_branches (communication_and c ss span cs) = branches_of ss ++ communication_branches cs

-- Which branch was taken

abbrev pub is_within : Span → ℕ → Bool
is_within span at = nat_le span.start at && nat_lt at span.end

-- in the block, before its last brace, at which what stands after `else` begins
abbrev pub is_in_block : Span → ℕ → Bool
is_in_block braces at = nat_le braces.start at && nat_lt at (braces.end - 1)

abbrev pub word_in : Span → BranchForm → ℕ → Word
word_in span (if_form braces is_silent) next =
    if is_in_block braces next || (is_silent && not (is_within span next)) then holds else does_not_hold
word_in span loop_form next = if is_within span next then goes_on else ends
word_in span (clauses_form clauses) next = if list_any (λ at. at == next) clauses then entered else none_entered

-- where that occurrence comes next after the header
abbrev pub word_at : Branch → ℕ → Word
word_at b next = word_in b.span b.form next

-- where it is told: at the clause that is entered, else at the header
abbrev pub place_in : ℕ → ℕ → Word → ℕ
place_in header next entered = next
place_in header next word = header

abbrev pub place_at : Branch → ℕ → ℕ
place_at b next = place_in b.span.start next (word_at b next)

-- What gives a variable a value, or hands its place out so that something else may: by the form of a statement, of an
-- expression and of an argument. Each is marked as a left side, as exposed, by its address, or as an argument with its
-- address. And each such mention of a tracked cancel variable binds it, clears it or is a fault. So where no use is a
-- fault, what the variable's cell holds changes by events of bindings alone. A read has no event, and changes nothing.
-- (The Go specification, "Assignment statements", "IncDec statements", "Short variable declarations", "Variable
-- declarations", "For statements with range clause", "Type switches", "Select statements", "Address operators".)
use Rattle.std.specs.Prelude.{ℕ, ◌≡◌, ◌++◌, Bool, true, false, if◌then◌else◌, List, [], ◌∷◌, Option, Some, None, is_some, map, Contains}
use Rattle.tree.specs.declared.operator.UnaryOperator.TheVariants.{Address}
use Rattle.tree.specs.declared.span.Span.{Span}
use Rattle.tree.specs.Syntax.{Identifier, expression_node, ExpressionForm, unary_expression, Expressions, no_expression, expression_and, StatementForm, empty_statement, declaration_statement, labeled_statement, expression_statement, send_statement, increment_statement, decrement_statement, assignment, operator_assignment, define_statement, go_statement, defer_statement, return_statement, break_statement, continue_statement, goto_statement, fallthrough_statement, block_statement, if_statement, for_statement, range_assignment, range_definition, switch_statement, type_switch_statement, select_statement, CaseClauses, no_case, case_and, Declaration, declaration_of, Specs, no_spec, value_and, type_and, SourceFile, Expression}
use Rattle.meaning.specs.Scopes.{is_blank}
use Rattle.meaning.specs.FunctionFacts.{cancel}
use Rattle.meaning.specs.Mentions.{Named, bare, bare_within, Standing, Call, Role, argument, left, exposed, pointed_to, Mention, BodyPlace, Mark, mentions, Spot, argument_at, expression_marks, form_marks, statement_form_marks}
use Rattle.meaning.specs.Tracked.{Known, variable_of, declared_by, Local}
use Rattle.meaning.specs.Uses.{Event, UseFault, Seen, found, tracked_kind, is_own, variable_at, mention_faults}
use Rattle.meaning.specs.BodyEvents.{mark_events, seen_file}
use Rattle.meaning_packages.specs.PathFaults.{BindsCancel}

-- What a form writes

abbrev pub one_name : Option Named → List Named
one_name None = []
one_name (Some n) = n ∷ []

-- the names among these left sides, in brackets or not
abbrev pub names_on_left : Expressions → List Named
names_on_left no_expression = []
names_on_left (expression_and e es) = one_name (bare_within e) ++ names_on_left es

abbrev pub name_of : Identifier → Named
name_of n = bare n.text n.span.start

-- a type is no variable
abbrev pub spec_names : Specs → List Named
spec_names no_spec = []
spec_names (value_and ns t es span specs) = map name_of ns ++ spec_names specs
spec_names (type_and n ps is_alias t span specs) = spec_names specs

abbrev pub declared_names : Declaration → List Named
declared_names (declaration_of keyword specs is_grouped span) = spec_names specs

-- the name of a type switch, which each clause declares anew
abbrev pub guard_names : Option Identifier → CaseClauses → List Named
guard_names None cs = []
guard_names (Some n) no_case = []
guard_names (Some n) (case_and es ss span cs) = if is_blank n.text then [] else name_of n ∷ []

-- what the statement itself gives a value, and no statement in it
abbrev pub written_by : StatementForm → List Named
written_by empty_statement = []
written_by (declaration_statement d) = declared_names d
written_by (labeled_statement n s) = []
written_by (expression_statement e) = []
written_by (send_statement c v) = []
written_by (increment_statement e) = one_name (bare_within e)
written_by (decrement_statement e) = one_name (bare_within e)
written_by (assignment ls rs) = names_on_left ls
written_by (operator_assignment op l r) = one_name (bare_within l)
written_by (define_statement ns rs) = map name_of ns
written_by (go_statement e) = []
written_by (defer_statement e) = []
written_by (return_statement es) = []
written_by (break_statement n) = []
written_by (continue_statement n) = []
written_by (goto_statement n) = []
written_by fallthrough_statement = []
written_by (block_statement ss braces) = []
written_by (if_statement init has_semicolon c ss braces otherwise) = []
written_by (for_statement init c post has_semicolons ss braces) = []
written_by (range_assignment ls e ss braces) = names_on_left ls
written_by (range_definition ns e ss braces) = map name_of ns
written_by (switch_statement init has_semicolon tag cs) = []
written_by (type_switch_statement init has_semicolon n e cs) = guard_names n cs
-- what a clause of a `select` waits for is a statement of its own
written_by (select_statement cs) = []

-- the place of a variable is handed out by `&n` and `&(n)` alone: a cancel function has no methods
abbrev pub handed_out : ExpressionForm → List Named
handed_out (unary_expression Address e) = one_name (bare_within e)
handed_out form = []

-- Marks

abbrev pub may_write : Role → Bool
may_write (left k row) = true
may_write exposed = true
may_write pointed_to = true
may_write (argument k has_address c) = has_address
may_write role = false

-- one of these marks mentions the name so
pub record IsMarked (ms : List Mark) (n : Named) : Type 0 where
  pub mention : Mention
  pub is_among : Contains ms (mentions mention)
  pub is_named : mention.named ≡ n
  pub writes : may_write mention.role ≡ true

abbrev pub as_argument : Option Call → ℕ → ℕ → Bool → Spot → Expression → List Mark
as_argument c site k is_last spot e = argument_at c site k is_last e (expression_marks spot e)

pub record WritesAreMarked : Type 0 where
  pub of_statement : (standing : Standing) (at : ℕ) (form : StatementForm) (n : Named)
      → Contains (written_by form) n
      → IsMarked (statement_form_marks standing at form) n
  pub of_expression : (spot : Spot) (span : Span) (form : ExpressionForm) (n : Named)
      → Contains (handed_out form) n
      → IsMarked (form_marks spot span form) n
  -- an argument has a role of its own
  pub of_argument : (c : Option Call) (site k : ℕ) (is_last : Bool) (spot : Spot) (span : Span) (form : ExpressionForm)
      (n : Named)
      → Contains (handed_out form) n
      → IsMarked (as_argument c site k is_last spot (expression_node form span)) n

-- What becomes of them

pub data IsSeenWrite (seen : Seen) (bodies : List BodyPlace) (m : Mention) (l : Local) : Type 0 where
  -- an event of the body that declares the variable obtains or clears it
  binds : (e : Event)
      → Contains (mark_events seen bodies (mentions m)) e
      → BindsCancel e (variable_at l m)
      → IsSeenWrite seen bodies m l
  is_fault : (x : UseFault) → Contains (mention_faults seen bodies m) x → IsSeenWrite seen bodies m l
  -- it declares a variable, and stands in another body than the first one of that number: none of a text does
  declares_another : is_own l bodies ≡ false → is_some (declared_by seen.known m) ≡ true → IsSeenWrite seen bodies m l

-- of a file, in each edition
abbrev pub WritesAreSeen : Type 0
WritesAreSeen = (known : Known) (tree : SourceFile) (bodies : List BodyPlace) (m : Mention) (l : Local)
    → Contains (seen_file known tree).marks record { mark = mentions m; bodies = bodies }
    → found (seen_file known tree) (variable_of known m) ≡ Some l
    → tracked_kind (seen_file known tree) (Some l) ≡ Some cancel
    → may_write m.role ≡ true
    → IsSeenWrite (seen_file known tree) bodies m l

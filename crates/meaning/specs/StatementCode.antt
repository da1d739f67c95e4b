-- What a body does, form of statement by form of statement. Each simple statement, each spec of a local declaration,
-- each `go`, `defer`, `return`, `break` and `continue`, each evaluation of the header of an `if`, `for`, `switch` or
-- `select`, and each clause that is entered is a site: it gives its events, or one that says nothing. Which events
-- they are is not said here. Empty statements, labels and blocks give none. Every branch is possible, and a loop
-- repeats freely. A `fallthrough` that is the last statement of a clause of a `switch` comes to its header again, so
-- that any clause may follow; after another one a path stops. Of a body with a `goto` nothing is known of the order:
-- Jumps says what stands in it. (The Go specification, "Statements", from "Terminating statements" to "Defer
-- statements", and "Handling panics".)
use Rattle.std.specs.Prelude.{ℕ, ◌+◌, ◌-◌, Bool, true, false, if◌then◌else◌, List, [], ◌∷◌, ◌++◌, Option, Some, None}
use Rattle.tree.specs.Syntax.{Identifier, Expressions, no_expression, expression_and, OptionalExpression, missing_expression, present_expression, Statement, statement_node, StatementForm, empty_statement, declaration_statement, labeled_statement, expression_statement, send_statement, increment_statement, decrement_statement, assignment, operator_assignment, define_statement, go_statement, defer_statement, return_statement, break_statement, continue_statement, goto_statement, fallthrough_statement, block_statement, if_statement, for_statement, range_assignment, range_definition, switch_statement, type_switch_statement, select_statement, Statements, no_statement, statement_and, OptionalStatement, missing_statement, present_statement, CaseClauses, no_case, case_and, CommunicationClauses, no_communication, communication_and, Declaration, declaration_of, Specs, no_spec, value_and, type_and, Block}
use Rattle.meaning.specs.Code.{Occurrence, Way, returning, breaking, continuing, falling, Code, skip, does, leave, then_code, either, repeats, up_to}
use Rattle.meaning.specs.Jumps.{Part, declaration_part, return_part, goto_part, plain_part, parts_of, jumps_in}

-- What the sites of a body give. A site is told by the offset of its first token.
pub record Sites (E : Type 0) : Type 0 where
  -- what a site gives that has no event
  pub other : E
  pub events : ℕ → List E
  -- the expression statement there is a call of the universe's `panic`
  pub panics : ℕ → Bool
  -- what the end of the body gives
  pub returns : E

-- nothing follows
abbrev pub stuck : {E : Type 0} → Code E
stuck = repeats skip

abbrev pub label_of : Option Identifier → Option (List ℕ)
label_of None = None
label_of (Some n) = Some n.text

-- what leaves by these labels arrives at the end of the code
abbrev pub up_to_labels : {E : Type 0} → (Option (List ℕ) → Way) → List (List ℕ) → Code E → Code E
up_to_labels way [] code = code
up_to_labels way (l ∷ ls) code = up_to (way (Some l)) (up_to_labels way ls code)

-- the end of a statement with these labels is where `break` leads
abbrev pub breaks_end : {E : Type 0} → List (List ℕ) → Code E → Code E
breaks_end ls code = up_to (breaking None) (up_to_labels breaking ls code)

-- the end of a loop's block is where `continue` leads
abbrev pub turns_end : {E : Type 0} → List (List ℕ) → Code E → Code E
turns_end ls code = up_to (continuing None) (up_to_labels continuing ls code)

-- A loop evaluates its header and goes through its block and its last statement, over and over. Where the header has a
-- condition or a range, the loop may end there; the code leaves it then as `break` does.
abbrev pub loop : {E : Type 0} → List (List ℕ) → Code E → Bool → Code E → Code E → Code E
loop ls header may_end body post =
    let turn = then_code (turns_end ls body) post in
    breaks_end ls (repeats (then_code header (if may_end then either (leave (breaking None)) turn else turn)))

-- the `fallthrough` that the statement is, under labels too
abbrev pub falls_at : Statement → List ℕ
falls_at (statement_node fallthrough_statement span) = span.start ∷ []
falls_at (statement_node (labeled_statement n s) span) = falls_at s
falls_at s = []

abbrev pub if_last : Statements → List ℕ → List ℕ → List ℕ
if_last no_statement here behind = here
if_last (statement_and s ss) here behind = behind

abbrev pub last_falls : Statements → List ℕ
last_falls no_statement = []
last_falls (statement_and s ss) = if_last ss (falls_at s) (last_falls ss)

-- those that are the last statements of clauses
abbrev pub clauses_fall : CaseClauses → List ℕ
clauses_fall no_case = []
clauses_fall (case_and es ss span cs) = last_falls ss ++ clauses_fall cs

abbrev pub up_to_falls : {E : Type 0} → List ℕ → Code E → Code E
up_to_falls [] code = code
up_to_falls (at ∷ ats) code = up_to (falling at) (up_to_falls ats code)

-- A switch evaluates its header and goes through a clause, or past all. Where clauses fall through, it does so over and
-- over until another way leads out of the clause.
abbrev pub switch_code : {E : Type 0} → List (List ℕ) → List ℕ → Code E → Code E → Code E
switch_code ls [] header clauses = then_code header (breaks_end ls clauses)
switch_code ls (at ∷ ats) header clauses =
    breaks_end ls
    (repeats (up_to_falls (at ∷ ats) (then_code header (then_code clauses (leave (breaking None))))))

abbrev pub is_present : OptionalExpression → Bool
is_present missing_expression = false
is_present (present_expression e) = true

abbrev pub is_default : Expressions → Bool
is_default no_expression = true
is_default (expression_and e es) = false

abbrev pub has_default : CaseClauses → Bool
has_default no_case = false
has_default (case_and es ss span cs) = if is_default es then true else has_default cs

-- the code of a clause, or that of the clauses after it where there are any
abbrev pub or_case : {E : Type 0} → Code E → CaseClauses → Code E → Code E
or_case first no_case rest = first
or_case first (case_and es ss span cs) rest = either first rest

abbrev pub or_communication : {E : Type 0} → Code E → CommunicationClauses → Code E → Code E
or_communication first no_communication rest = first
or_communication first (communication_and c ss span cs) rest = either first rest

-- a switch without default may be passed
abbrev pub or_past : {E : Type 0} → CaseClauses → Code E → Code E
or_past no_case code = skip
or_past (case_and es ss span cs) code = if has_default (case_and es ss span cs) then code else either code skip

-- the first, where something jumps, else the second
abbrev pub jumping_or : {E : Type 0} → List ℕ → Code E → Code E → Code E
jumping_or [] jumping code = code
jumping_or (at ∷ ats) jumping code = jumping

module _ {E : Type 0} (sites : Sites E) where
  abbrev pub or_other : List E → List E
  or_other [] = sites.other ∷ []
  or_other (e ∷ es) = e ∷ es

  -- events of one offset, one after the other, numbered on from `order`
  abbrev pub in_order : ℕ → ℕ → List E → Code E
  in_order at order [] = skip
  in_order at order (e ∷ es) =
      then_code (does record { at = at; order = order; event = e }) (in_order at (order + 1) es)

  abbrev pub site : ℕ → Code E
  site at = in_order at 0 (or_other (sites.events at))

  -- A branch that begins at a brace: the brace is no site unless it has events.
  abbrev pub behind_events : ℕ → List E → Code E → Code E
  behind_events at [] code = code
  behind_events at (e ∷ es) code = then_code (in_order at 0 (e ∷ es)) code

  abbrev pub branch : ℕ → Code E → Code E
  branch brace code = behind_events brace (sites.events brace) code

  -- the events of a declaration's specs, one spec after the other
  abbrev pub spec_events : Specs → List E
  spec_events no_spec = []
  spec_events (value_and ns t es span specs) = or_other (sites.events span.start) ++ spec_events specs
  spec_events (type_and n ps is_alias t span specs) = or_other (sites.events span.start) ++ spec_events specs

  -- they stand where the declaration begins
  abbrev pub declaration_code : Declaration → Code E
  declaration_code (declaration_of keyword specs is_grouped span) = in_order span.start 0 (spec_events specs)

  -- the code of a statement with these labels
  unfoldable mutual
    pub statement_code : List (List ℕ) → Statement → Code E
    statement_code ls (statement_node form span) = form_code ls span.start form

    pub form_code : List (List ℕ) → ℕ → StatementForm → Code E
    form_code ls at empty_statement = skip
    form_code ls at (declaration_statement d) = declaration_code d
    form_code ls at (labeled_statement n s) = statement_code (n.text ∷ ls) s
    form_code ls at (expression_statement e) = if sites.panics at then then_code (site at) stuck else site at
    form_code ls at (send_statement c v) = site at
    form_code ls at (increment_statement e) = site at
    form_code ls at (decrement_statement e) = site at
    form_code ls at (assignment left right) = site at
    form_code ls at (operator_assignment op l r) = site at
    form_code ls at (define_statement ns right) = site at
    form_code ls at (go_statement e) = site at
    form_code ls at (defer_statement e) = site at
    form_code ls at (return_statement es) = then_code (site at) (leave returning)
    form_code ls at (break_statement n) = then_code (site at) (leave (breaking (label_of n)))
    form_code ls at (continue_statement n) = then_code (site at) (leave (continuing (label_of n)))
    -- `block_code` says what follows a `goto`
    form_code ls at (goto_statement n) = then_code (site at) stuck
    -- only one that is the last statement of a clause arrives somewhere
    form_code ls at fallthrough_statement = then_code (site at) (leave (falling at))
    form_code ls at (block_statement ss braces) = statements_code ss
    -- the block, or what stands after `else`, or past it where there is no `else`; the last brace stands for the second
    form_code ls at (if_statement init has_semicolon c ss braces otherwise) =
        then_code (optional_code init) (then_code (site at) (either
        (branch braces.start (statements_code ss))
        (branch (braces.end - 1) (optional_code otherwise))))
    form_code ls at (for_statement init c post has_semicolons ss braces) =
        then_code (optional_code init) (loop ls (site at) (is_present c) (statements_code ss) (optional_code post))
    form_code ls at (range_assignment left e ss braces) = loop ls (site at) true (statements_code ss) skip
    form_code ls at (range_definition ns e ss braces) = loop ls (site at) true (statements_code ss) skip
    form_code ls at (switch_statement init has_semicolon tag cs) =
        then_code (optional_code init) (switch_code ls (clauses_fall cs) (site at) (or_past cs (cases_code cs)))
    form_code ls at (type_switch_statement init has_semicolon n e cs) =
        then_code (optional_code init) (then_code (site at) (breaks_end ls (or_past cs (cases_code cs))))
    -- a select without clauses waits for ever
    form_code ls at (select_statement cs) = then_code (site at) (breaks_end ls (communications_code cs))

    pub optional_code : OptionalStatement → Code E
    optional_code missing_statement = skip
    optional_code (present_statement s) = statement_code [] s

    pub statements_code : Statements → Code E
    statements_code no_statement = skip
    statements_code (statement_and s ss) = then_code (statement_code [] s) (statements_code ss)

    -- one clause is entered
    pub cases_code : CaseClauses → Code E
    cases_code no_case = stuck
    cases_code (case_and es ss span cs) =
        or_case (then_code (site span.start) (statements_code ss)) cs (cases_code cs)

    pub communications_code : CommunicationClauses → Code E
    communications_code no_communication = stuck
    communications_code (communication_and c ss span cs) =
        or_communication (then_code (site span.start) (statements_code ss)) cs (communications_code cs)

  -- In a body with a `goto` any of its parts may come, in any order and any number of times; its returns leave it.
  abbrev pub part_code : Part → Code E
  part_code (declaration_part d) = declaration_code d
  part_code (return_part at) = then_code (site at) (leave returning)
  part_code (goto_part at) = site at
  part_code (plain_part at) = site at

  abbrev pub one_of : List Part → Code E
  one_of [] = skip
  one_of (p ∷ ps) = either (part_code p) (one_of ps)

  abbrev pub jumping_code : List Part → Code E
  jumping_code ps = loop [] skip true (one_of ps) skip

  -- the statements of a body
  abbrev pub block_code : Statements → Code E
  block_code ss = jumping_or (jumps_in ss) (jumping_code (parts_of ss)) (statements_code ss)

  -- a body begins with an event at its first brace
  abbrev pub entry : Block → Occurrence E
  entry b = record { at = b.braces.start; order = 0; event = sites.other }

  -- falling off its end is a return at its last brace
  abbrev pub last_return : Block → Occurrence E
  last_return b = record { at = b.braces.end - 1; order = 0; event = sites.returns }

  abbrev pub body_code : Block → Code E
  body_code b = then_code (does (entry b)) (then_code (block_code b.statements) (does (last_return b)))

-- The parts of statements stand at sites of these: the code asks for the events of each but a return there.
use Rattle.std.proofs.Common.{ℕ, inl, inr, List, [], ◌∷◌, ◌++◌, Contains, sym, subst, append_assoc}
use Rattle.std.proofs.lemmas.List.Elements.{Contains-append_left, Contains-append_right}
use Rattle.tree.specs.Syntax.{Statement, statement_node, StatementForm, empty_statement, declaration_statement, labeled_statement, expression_statement, send_statement, increment_statement, decrement_statement, assignment, operator_assignment, define_statement, go_statement, defer_statement, return_statement, break_statement, continue_statement, goto_statement, fallthrough_statement, block_statement, if_statement, for_statement, range_assignment, range_definition, switch_statement, type_switch_statement, select_statement, Statements, no_statement, statement_and, OptionalStatement, missing_statement, present_statement, CaseClauses, no_case, case_and, CommunicationClauses, no_communication, communication_and}
use Rattle.meaning.specs.Jumps.{Part, declaration_part, return_part, goto_part, plain_part, statement_parts, form_parts, parts_of, optional_parts, cases_parts, communications_parts, jumps_among, jumps_in}
use Rattle.meaning.proofs.Membership.{contains_nil, contains_here, contains_there, contains_cases}
use Rattle.meaning_runs.proofs.AskedSites.{CodeSite, asked_at, unasked_at, asked_declaration, asked_statement, asked_form, asked_optional, asked_statements, asked_cases, asked_communications}
use Rattle.std.specs.Prelude.{◌-◌}

-- the part's sites are among these
abbrev pub StandsAt : List CodeSite → Part → Type 0
StandsAt sites (declaration_part d) = (s : CodeSite) → Contains (asked_declaration d) s → Contains sites s
StandsAt sites (return_part at) = Contains sites (unasked_at at)
StandsAt sites (goto_part at) = Contains sites (asked_at at)
StandsAt sites (plain_part at) = Contains sites (asked_at at)

abbrev pub AllStandAt : List CodeSite → List Part → Type 0
AllStandAt sites [] = Unit {0}
AllStandAt sites (p ∷ ps) = StandsAt sites p × AllStandAt sites ps

abbrev AreAmong : List CodeSite → List CodeSite → Type 0
AreAmong sites more = (s : CodeSite) → Contains sites s → Contains more s

one_wider : (sites more : List CodeSite) → AreAmong sites more → (p : Part) → StandsAt sites p → StandsAt more p
one_wider sites more up (declaration_part d) h = λ s k. up s (h s k)
one_wider sites more up (return_part at) h = up (unasked_at at) h
one_wider sites more up (goto_part at) h = up (asked_at at) h
one_wider sites more up (plain_part at) h = up (asked_at at) h

wider : (sites more : List CodeSite) → AreAmong sites more → (ps : List Part) → AllStandAt sites ps → AllStandAt more ps
wider sites more up [] h = tt
wider sites more up (p ∷ ps) h = (one_wider sites more up p h.0, wider sites more up ps h.1)

both : (sites : List CodeSite) (ps qs : List Part) → AllStandAt sites ps → AllStandAt sites qs → AllStandAt sites (ps ++ qs)
both sites [] qs h k = k
both sites (p ∷ ps) qs h k = (h.0, both sites ps qs h.1 k)

-- each of two parts of a statement at its own sites
apart : (qs rs : List CodeSite) (ps others : List Part) → AllStandAt qs ps → AllStandAt rs others
    → AllStandAt (qs ++ rs) (ps ++ others)
apart qs rs ps others h k =
    both (qs ++ rs) ps others (wider qs (qs ++ rs) (λ s among. Contains-append_left qs rs s among) ps h)
    (wider rs (qs ++ rs) (λ s among. Contains-append_right qs rs s among) others k)

-- in the other order
crossed : (qs rs : List CodeSite) (ps others : List Part) → AllStandAt rs ps → AllStandAt qs others
    → AllStandAt (qs ++ rs) (ps ++ others)
crossed qs rs ps others h k =
    both (qs ++ rs) ps others (wider rs (qs ++ rs) (λ s among. Contains-append_right qs rs s among) ps h)
    (wider qs (qs ++ rs) (λ s among. Contains-append_left qs rs s among) others k)

-- a header or a clause, and what stands behind it
led : (at : ℕ) (sites : List CodeSite) (ps : List Part) → AllStandAt sites ps
    → AllStandAt (asked_at at ∷ sites) (plain_part at ∷ ps)
led at sites ps h = (
  contains_here (asked_at at) sites,
  wider sites (asked_at at ∷ sites) (λ s among. contains_there (asked_at at) s sites among) ps h,
)

-- behind a site that nothing asks for
behind : (q : CodeSite) (sites : List CodeSite) (ps : List Part) → AllStandAt sites ps → AllStandAt (q ∷ sites) ps
behind q sites ps h = wider sites (q ∷ sites) (λ s among. contains_there q s sites among) ps h

-- with a statement before the header
headed : (at : ℕ) (qs rs : List CodeSite) (ps others : List Part) → AllStandAt qs ps → AllStandAt rs others
    → AllStandAt (asked_at at ∷ (qs ++ rs)) (ps ++ plain_part at ∷ others)
headed at qs rs ps others h k =
    let all = asked_at at ∷ (qs ++ rs) in
    both all ps (plain_part at ∷ others)
    (wider qs all (λ s among. contains_there (asked_at at) s (qs ++ rs) (Contains-append_left qs rs s among)) ps h) (
      contains_here (asked_at at) (qs ++ rs),
      wider rs all (λ s among. contains_there (asked_at at) s (qs ++ rs) (Contains-append_right qs rs s among)) others k,
    )

alone : (at : ℕ) → AllStandAt (asked_at at ∷ []) (plain_part at ∷ [])
alone at = (contains_here (asked_at at) [], tt)

mutual
  unfolding parts_of statement_parts form_parts optional_parts cases_parts communications_parts asked_statement
      asked_form asked_optional asked_statements asked_cases asked_communications

  of_statement : (s : Statement) → AllStandAt (asked_statement s) (statement_parts s)
  of_statement (statement_node form span) = of_form span.start form

  of_form : (at : ℕ) (form : StatementForm) → AllStandAt (asked_form at form) (form_parts at form)
  of_form at empty_statement = tt
  of_form at (declaration_statement d) = (λ s among. among, tt)
  of_form at (labeled_statement n s) = of_statement s
  of_form at (expression_statement e) = alone at
  of_form at (send_statement c v) = alone at
  of_form at (increment_statement e) = alone at
  of_form at (decrement_statement e) = alone at
  of_form at (assignment ls rs) = alone at
  of_form at (operator_assignment op l r) = alone at
  of_form at (define_statement ns rs) = alone at
  of_form at (go_statement e) = alone at
  of_form at (defer_statement e) = alone at
  of_form at (return_statement es) = (contains_here (unasked_at at) [], tt)
  of_form at (break_statement n) = alone at
  of_form at (continue_statement n) = alone at
  of_form at (goto_statement n) = (contains_here (asked_at at) [], tt)
  of_form at fallthrough_statement = alone at
  of_form at (block_statement ss braces) = of_statements ss
  of_form at (if_statement init has_semicolon c ss braces otherwise) =
      let block = asked_at braces.start ∷ asked_statements ss in
      let past = asked_at (braces.end - 1) ∷ asked_optional otherwise in
      headed at (asked_optional init) (block ++ past) (optional_parts init) (parts_of ss ++ optional_parts otherwise)
      (of_optional init)
      (apart block past (parts_of ss) (optional_parts otherwise)
      (behind (asked_at braces.start) (asked_statements ss) (parts_of ss) (of_statements ss))
      (behind (asked_at (braces.end - 1)) (asked_optional otherwise) (optional_parts otherwise) (of_optional otherwise)))
  of_form at (for_statement init c post has_semicolons ss braces) =
      subst (λ (l : List CodeSite). AllStandAt (asked_at at ∷ l) (optional_parts init ++ plain_part at ∷ (parts_of ss ++ optional_parts post)))
      (sym (append_assoc (asked_optional init) (asked_optional post) (asked_statements ss)))
      (headed at (asked_optional init) (asked_optional post ++ asked_statements ss) (optional_parts init)
      (parts_of ss ++ optional_parts post) (of_optional init)
      (crossed (asked_optional post) (asked_statements ss) (parts_of ss) (optional_parts post) (of_statements ss)
      (of_optional post)))
  of_form at (range_assignment ls e ss braces) = led at (asked_statements ss) (parts_of ss) (of_statements ss)
  of_form at (range_definition ns e ss braces) = led at (asked_statements ss) (parts_of ss) (of_statements ss)
  of_form at (switch_statement init has_semicolon tag cs) =
      headed at (asked_optional init) (asked_cases cs) (optional_parts init) (cases_parts cs) (of_optional init) (of_cases cs)
  of_form at (type_switch_statement init has_semicolon n e cs) =
      headed at (asked_optional init) (asked_cases cs) (optional_parts init) (cases_parts cs) (of_optional init) (of_cases cs)
  of_form at (select_statement cs) = led at (asked_communications cs) (communications_parts cs) (of_communications cs)

  of_optional : (s : OptionalStatement) → AllStandAt (asked_optional s) (optional_parts s)
  of_optional missing_statement = tt
  of_optional (present_statement s) = of_statement s

  pub of_statements : (ss : Statements) → AllStandAt (asked_statements ss) (parts_of ss)
  of_statements no_statement = tt
  of_statements (statement_and s ss) =
      apart (asked_statement s) (asked_statements ss) (statement_parts s) (parts_of ss) (of_statement s) (of_statements ss)

  of_cases : (cs : CaseClauses) → AllStandAt (asked_cases cs) (cases_parts cs)
  of_cases no_case = tt
  of_cases (case_and es ss span cs) =
      apart (asked_at span.start ∷ asked_statements ss) (asked_cases cs) (plain_part span.start ∷ parts_of ss) (cases_parts cs)
      (led span.start (asked_statements ss) (parts_of ss) (of_statements ss)) (of_cases cs)

  of_communications : (cs : CommunicationClauses) → AllStandAt (asked_communications cs) (communications_parts cs)
  of_communications no_communication = tt
  of_communications (communication_and c ss span cs) =
      apart (asked_at span.start ∷ asked_statements ss) (asked_communications cs) (plain_part span.start ∷ parts_of ss)
      (communications_parts cs) (led span.start (asked_statements ss) (parts_of ss) (of_statements ss))
      (of_communications cs)

among_parts : (sites : List CodeSite) (ps : List Part) → AllStandAt sites ps → (at : ℕ) → Contains (jumps_among ps) at
    → Contains sites (asked_at at)
among_parts sites [] h at none = absurd (contains_nil at none)
among_parts sites (declaration_part d ∷ ps) h at among = among_parts sites ps h.1 at among
among_parts sites (return_part n ∷ ps) h at among = among_parts sites ps h.1 at among
among_parts sites (plain_part n ∷ ps) h at among = among_parts sites ps h.1 at among
among_parts sites (goto_part n ∷ ps) h at among = elim (contains_cases n at (jumps_among ps) among) [
  | inl same ↦ subst (λ (k : ℕ). Contains sites (asked_at k)) same h.0
  | inr later ↦ among_parts sites ps h.1 at later
]

-- a `goto` stands at a site for whose events the code asks
pub jump_is_asked : (ss : Statements) (at : ℕ) → Contains (jumps_in ss) at → Contains (asked_statements ss) (asked_at at)
jump_is_asked ss at among = among_parts (asked_statements ss) (parts_of ss) (of_statements ss) at among

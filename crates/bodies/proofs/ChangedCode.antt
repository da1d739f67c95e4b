-- Codes whose events are other ones: the code of sites with other events is the same code with those events.
use Rattle.std.proofs.Common.{◌≡◌, ℕ, ◌+◌, Bool, true, false, List, [], ◌∷◌, ◌++◌, map, refl, sym, ap, ◌∙◌}
use Rattle.std.specs.Prelude.{if◌then◌else◌, Option, Some, None, ◌-◌}
use Rattle.std.proofs.lemmas.List.{map-append}
use Rattle.tree.specs.Syntax.{Statement, statement_node, StatementForm, empty_statement, declaration_statement, labeled_statement, expression_statement, send_statement, increment_statement, decrement_statement, assignment, operator_assignment, define_statement, go_statement, defer_statement, return_statement, break_statement, continue_statement, goto_statement, fallthrough_statement, block_statement, if_statement, for_statement, range_assignment, range_definition, switch_statement, type_switch_statement, select_statement, Statements, no_statement, statement_and, OptionalStatement, missing_statement, present_statement, CaseClauses, no_case, case_and, CommunicationClauses, no_communication, communication_and, Declaration, declaration_of, Specs, no_spec, value_and, type_and, Block}
use Rattle.meaning.specs.Code.{Way, returning, breaking, continuing, falling, Code, skip, does, leave, then_code, either, repeats, up_to}
use Rattle.meaning.specs.Jumps.{Part, declaration_part, return_part, goto_part, plain_part, parts_of, jumps_in}
use Rattle.meaning.specs.StatementCode.{Sites, part_code, one_of, jumping_or, jumping_code, block_code, clauses_fall, up_to_falls, switch_code, stuck, up_to_labels, breaks_end, turns_end, loop, is_present, has_default, or_case, or_communication, or_past, or_other, in_order, site, behind_events, branch, spec_events, declaration_code, statement_code, form_code, optional_code, statements_code, cases_code, communications_code, entry, last_return, body_code, label_of}
use Rattle.bodies.specs.NodeEvents.{changed}

module _ {E F : Type 0} (f : E → F) where
  abbrev pub changed_code : Code E → Code F
  changed_code skip = skip
  changed_code (does o) = does (changed f o)
  changed_code (leave w) = leave w
  changed_code (then_code a b) = then_code (changed_code a) (changed_code b)
  changed_code (either a b) = either (changed_code a) (changed_code b)
  changed_code (repeats a) = repeats (changed_code a)
  changed_code (up_to w a) = up_to w (changed_code a)

  abbrev pub changed_sites : Sites E → Sites F
  changed_sites sites = record {
    other = f sites.other;
    events = λ at. map f (sites.events at);
    panics = sites.panics;
    returns = f sites.returns;
  }

  -- What is put together of codes

  chosen : (b : Bool) (c d : Code E) → (if b then changed_code c else changed_code d) ≡ changed_code (if b then c else d)
  chosen true c d = refl
  chosen false c d = refl

  up_to_each : (way : Option (List ℕ) → Way) (ls : List (List ℕ)) (c : Code E)
      → up_to_labels way ls (changed_code c) ≡ changed_code (up_to_labels way ls c)
  up_to_each way [] c = refl
  up_to_each way (l ∷ ls) c = ap (up_to (way (Some l))) (up_to_each way ls c)

  broken : (ls : List (List ℕ)) (c : Code E) → breaks_end ls (changed_code c) ≡ changed_code (breaks_end ls c)
  broken ls c = ap (up_to (breaking None)) (up_to_each breaking ls c)

  turned : (ls : List (List ℕ)) (c : Code E) → turns_end ls (changed_code c) ≡ changed_code (turns_end ls c)
  turned ls c = ap (up_to (continuing None)) (up_to_each continuing ls c)

  looped : (ls : List (List ℕ)) (h : Code E) (may_end : Bool) (b p : Code E)
      → loop ls (changed_code h) may_end (changed_code b) (changed_code p) ≡ changed_code (loop ls h may_end b p)
  looped ls h true b p =
      ap (λ z. breaks_end ls (repeats (then_code (changed_code h) (either (leave (breaking None)) (then_code z (changed_code p))))))
      (turned ls b)
      ∙ broken ls (repeats (then_code h (either (leave (breaking None)) (then_code (turns_end ls b) p))))
  looped ls h false b p =
      ap (λ z. breaks_end ls (repeats (then_code (changed_code h) (then_code z (changed_code p))))) (turned ls b)
      ∙ broken ls (repeats (then_code h (then_code (turns_end ls b) p)))

  fallen : (ats : List ℕ) (c : Code E) → up_to_falls ats (changed_code c) ≡ changed_code (up_to_falls ats c)
  fallen [] c = refl
  fallen (at ∷ ats) c = ap (up_to (falling at)) (fallen ats c)

  switched : (ls : List (List ℕ)) (ats : List ℕ) (h c : Code E)
      → switch_code ls ats (changed_code h) (changed_code c) ≡ changed_code (switch_code ls ats h c)
  switched ls [] h c = ap (then_code (changed_code h)) (broken ls c)
  switched ls (at ∷ ats) h c =
      let turn = then_code h (then_code c (leave (breaking None))) in
      ap (λ z. breaks_end ls (repeats z)) (fallen (at ∷ ats) turn)
      ∙ broken ls (repeats (up_to_falls (at ∷ ats) turn))

  or_jumped : (js : List ℕ) (c d : Code E)
      → jumping_or js (changed_code c) (changed_code d) ≡ changed_code (jumping_or js c d)
  or_jumped [] c d = refl
  or_jumped (j ∷ js) c d = refl

  or_next_case : (c : Code E) (cs : CaseClauses) (d : Code E)
      → or_case (changed_code c) cs (changed_code d) ≡ changed_code (or_case c cs d)
  or_next_case c no_case d = refl
  or_next_case c (case_and es ss span cs) d = refl

  or_next_communication : (c : Code E) (cs : CommunicationClauses) (d : Code E)
      → or_communication (changed_code c) cs (changed_code d) ≡ changed_code (or_communication c cs d)
  or_next_communication c no_communication d = refl
  or_next_communication c (communication_and s ss span cs) d = refl

  passed : (cs : CaseClauses) (c : Code E) → or_past cs (changed_code c) ≡ changed_code (or_past cs c)
  passed no_case c = refl
  passed (case_and es ss span cs) c = chosen (has_default (case_and es ss span cs)) c (either c skip)

  passed_or_broken : (ls : List (List ℕ)) (cs : CaseClauses) (c : Code E)
      → breaks_end ls (or_past cs (changed_code c)) ≡ changed_code (breaks_end ls (or_past cs c))
  passed_or_broken ls cs c = ap (breaks_end ls) (passed cs c) ∙ broken ls (or_past cs c)

  -- Sites

  module _ (sites : Sites E) where
    abbrev others : Sites F
    others = changed_sites sites

    at_least_one : (es : List E) → or_other others (map f es) ≡ map f (or_other sites es)
    at_least_one [] = refl
    at_least_one (e ∷ es) = refl

    ordered : (at order : ℕ) (es : List E)
        → in_order others at order (map f es) ≡ changed_code (in_order sites at order es)
    ordered at order [] = refl
    ordered at order (e ∷ es) =
        ap (then_code (does record { at = at; order = order; event = f e })) (ordered at (order + 1) es)

    of_site : (at : ℕ) → site others at ≡ changed_code (site sites at)
    of_site at =
        ap (in_order others at 0) (at_least_one (sites.events at)) ∙ ordered at 0 (or_other sites (sites.events at))

    -- what a branch begins with at its brace, if the brace has events
    behind : (at : ℕ) (es : List E) (c : Code E)
        → behind_events others at (map f es) (changed_code c) ≡ changed_code (behind_events sites at es c)
    behind at [] c = refl
    behind at (e ∷ es) c = ap (λ d. then_code d (changed_code c)) (ordered at 0 (e ∷ es))

    branched : (brace : ℕ) (c : Code E) → branch others brace (changed_code c) ≡ changed_code (branch sites brace c)
    branched brace c = behind brace (sites.events brace) c

    of_specs : (specs : Specs) → spec_events others specs ≡ map f (spec_events sites specs)
    of_specs no_spec = refl
    of_specs (value_and ns t es span specs) =
        (λ i. at_least_one (sites.events span.start) i ++ of_specs specs i)
        ∙ sym (map-append f (or_other sites (sites.events span.start)) (spec_events sites specs))
    of_specs (type_and n ps is_alias t span specs) =
        (λ i. at_least_one (sites.events span.start) i ++ of_specs specs i)
        ∙ sym (map-append f (or_other sites (sites.events span.start)) (spec_events sites specs))

    of_declaration : (d : Declaration) → declaration_code others d ≡ changed_code (declaration_code sites d)
    of_declaration (declaration_of keyword specs is_grouped span) =
        ap (in_order others span.start 0) (of_specs specs) ∙ ordered span.start 0 (spec_events sites specs)

    mutual
      unfolding statement_code form_code optional_code statements_code cases_code communications_code

      pub of_statement : (ls : List (List ℕ)) (s : Statement)
          → statement_code others ls s ≡ changed_code (statement_code sites ls s)
      of_statement ls (statement_node form span) = of_form ls span.start form

      of_form : (ls : List (List ℕ)) (at : ℕ) (form : StatementForm)
          → form_code others ls at form ≡ changed_code (form_code sites ls at form)
      of_form ls at empty_statement = refl
      of_form ls at (declaration_statement d) = of_declaration d
      of_form ls at (labeled_statement n s) = of_statement (n.text ∷ ls) s
      of_form ls at (expression_statement e) =
          (λ i. if sites.panics at then then_code (of_site at i) stuck else of_site at i)
          ∙ chosen (sites.panics at) (then_code (site sites at) stuck) (site sites at)
      of_form ls at (send_statement c v) = of_site at
      of_form ls at (increment_statement e) = of_site at
      of_form ls at (decrement_statement e) = of_site at
      of_form ls at (assignment left right) = of_site at
      of_form ls at (operator_assignment op l r) = of_site at
      of_form ls at (define_statement ns right) = of_site at
      of_form ls at (go_statement e) = of_site at
      of_form ls at (defer_statement e) = of_site at
      of_form ls at (return_statement es) = ap (λ c. then_code c (leave returning)) (of_site at)
      of_form ls at (break_statement n) = ap (λ c. then_code c (leave (breaking (label_of n)))) (of_site at)
      of_form ls at (continue_statement n) = ap (λ c. then_code c (leave (continuing (label_of n)))) (of_site at)
      of_form ls at (goto_statement n) = ap (λ c. then_code c stuck) (of_site at)
      of_form ls at fallthrough_statement = ap (λ c. then_code c (leave (falling at))) (of_site at)
      of_form ls at (block_statement ss braces) = of_statements ss
      of_form ls at (if_statement init has_semicolon c ss braces otherwise) =
          let last = braces.end - 1 in
          (λ i. then_code (of_optional init i) (then_code (of_site at i) (either
          (branch others braces.start (of_statements ss i))
          (branch others last (of_optional otherwise i)))))
          ∙ (λ i. then_code (changed_code (optional_code sites init)) (then_code (changed_code (site sites at)) (either
          (branched braces.start (statements_code sites ss) i)
          (branched last (optional_code sites otherwise) i))))
      of_form ls at (for_statement init c post has_semicolons ss braces) =
          (λ i. then_code (of_optional init i)
          (loop ls (of_site at i) (is_present c) (of_statements ss i) (of_optional post i)))
          ∙ ap (then_code (changed_code (optional_code sites init)))
          (looped ls (site sites at) (is_present c) (statements_code sites ss) (optional_code sites post))
      of_form ls at (range_assignment left e ss braces) =
          (λ i. loop ls (of_site at i) true (of_statements ss i) skip)
          ∙ looped ls (site sites at) true (statements_code sites ss) skip
      of_form ls at (range_definition ns e ss braces) =
          (λ i. loop ls (of_site at i) true (of_statements ss i) skip)
          ∙ looped ls (site sites at) true (statements_code sites ss) skip
      of_form ls at (switch_statement init has_semicolon tag cs) =
          (λ i. then_code (of_optional init i) (switch_code ls (clauses_fall cs) (of_site at i) (or_past cs (of_cases cs i))))
          ∙ ap (λ c. then_code (changed_code (optional_code sites init))
          (switch_code ls (clauses_fall cs) (changed_code (site sites at)) c))
          (passed cs (cases_code sites cs))
          ∙ ap (then_code (changed_code (optional_code sites init)))
          (switched ls (clauses_fall cs) (site sites at) (or_past cs (cases_code sites cs)))
      of_form ls at (type_switch_statement init has_semicolon n e cs) =
          (λ i. then_code (of_optional init i)
          (then_code (of_site at i) (breaks_end ls (or_past cs (of_cases cs i)))))
          ∙ ap (λ c. then_code (changed_code (optional_code sites init)) (then_code (changed_code (site sites at)) c))
          (passed_or_broken ls cs (cases_code sites cs))
      of_form ls at (select_statement cs) =
          (λ i. then_code (of_site at i) (breaks_end ls (of_communications cs i)))
          ∙ ap (then_code (changed_code (site sites at))) (broken ls (communications_code sites cs))

      of_optional : (s : OptionalStatement) → optional_code others s ≡ changed_code (optional_code sites s)
      of_optional missing_statement = refl
      of_optional (present_statement s) = of_statement [] s

      pub of_statements : (ss : Statements) → statements_code others ss ≡ changed_code (statements_code sites ss)
      of_statements no_statement = refl
      of_statements (statement_and s ss) = λ i. then_code (of_statement [] s i) (of_statements ss i)

      of_cases : (cs : CaseClauses) → cases_code others cs ≡ changed_code (cases_code sites cs)
      of_cases no_case = refl
      of_cases (case_and es ss span cs) =
          (λ i. or_case (then_code (of_site span.start i) (of_statements ss i)) cs (of_cases cs i))
          ∙ or_next_case (then_code (site sites span.start) (statements_code sites ss)) cs (cases_code sites cs)

      of_communications : (cs : CommunicationClauses)
          → communications_code others cs ≡ changed_code (communications_code sites cs)
      of_communications no_communication = refl
      of_communications (communication_and c ss span cs) =
          (λ i. or_communication (then_code (of_site span.start i) (of_statements ss i)) cs (of_communications cs i))
          ∙ or_next_communication (then_code (site sites span.start) (statements_code sites ss)) cs
          (communications_code sites cs)

    of_part : (p : Part) → part_code others p ≡ changed_code (part_code sites p)
    of_part (declaration_part d) = of_declaration d
    of_part (return_part at) = ap (λ c. then_code c (leave returning)) (of_site at)
    of_part (goto_part at) = of_site at
    of_part (plain_part at) = of_site at

    of_parts : (ps : List Part) → one_of others ps ≡ changed_code (one_of sites ps)
    of_parts [] = refl
    of_parts (p ∷ ps) = λ i. either (of_part p i) (of_parts ps i)

    of_jumping : (ps : List Part) → jumping_code others ps ≡ changed_code (jumping_code sites ps)
    of_jumping ps = ap (λ c. loop [] skip true c skip) (of_parts ps) ∙ looped [] skip true (one_of sites ps) skip

    of_block : (ss : Statements) → block_code others ss ≡ changed_code (block_code sites ss)
    of_block ss =
        (λ i. jumping_or (jumps_in ss) (of_jumping (parts_of ss) i) (of_statements ss i))
        ∙ or_jumped (jumps_in ss) (jumping_code sites (parts_of ss)) (statements_code sites ss)

    pub of_body : (b : Block) → body_code others b ≡ changed_code (body_code sites b)
    of_body b =
        ap (λ c. then_code (does (entry others b)) (then_code c (does (last_return others b))))
        (of_block b.statements)

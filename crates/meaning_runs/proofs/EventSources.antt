-- A property of all that the sites of a body give is one of each event that a list of the body's code has.
use Rattle.std.proofs.Common.{◌≡◌, ℕ, ◌+◌, Bool, true, false, inl, inr, List, [], ◌∷◌, ◌++◌, Option, None, Contains, refl, subst}
use Rattle.std.specs.Prelude.{◌&&◌, if◌then◌else◌, ◌-◌}
use Rattle.std.proofs.lemmas.List.Elements.{Contains-append_cases, Contains-append_right}
use Rattle.tree.specs.Syntax.{Statement, statement_node, StatementForm, empty_statement, declaration_statement, labeled_statement, expression_statement, send_statement, increment_statement, decrement_statement, assignment, operator_assignment, define_statement, go_statement, defer_statement, return_statement, break_statement, continue_statement, goto_statement, fallthrough_statement, block_statement, if_statement, for_statement, range_assignment, range_definition, switch_statement, type_switch_statement, select_statement, Statements, no_statement, statement_and, OptionalStatement, missing_statement, present_statement, CaseClauses, no_case, case_and, CommunicationClauses, no_communication, communication_and, Declaration, declaration_of, Specs, no_spec, value_and, type_and, Block}
use Rattle.meaning.specs.Code.{Occurrence, Way, Code, skip, does, leave, then_code, either, repeats, up_to, breaking, continuing}
use Rattle.meaning.specs.Lists.{Exit, stopped, Lists, not_begun, skipped, done, just_done, left, ends_in_first, goes_on, in_first, in_second, ends_in_turn, turns_again, arrives, passes}
use Rattle.meaning.specs.Jumps.{Part, declaration_part, return_part, goto_part, plain_part, parts_of, jumps_in}
use Rattle.meaning.specs.StatementCode.{Sites, part_code, one_of, jumping_or, jumping_code, block_code, clauses_fall, up_to_falls, switch_code, stuck, up_to_labels, turns_end, loop, is_present, has_default, or_case, or_communication, or_past, or_other, in_order, site, spec_events, declaration_code, statement_code, form_code, optional_code, statements_code, cases_code, communications_code, body_code, branch, behind_events}
use Rattle.meaning.specs.Tracked.{Placed}
use Rattle.meaning.specs.Uses.{Seen, Event, is_body}
use Rattle.meaning.specs.BodyEvents.{mark_events, is_site, events_at, sites_of}
use Rattle.meaning.proofs.Membership.{contains_here, contains_there, contains_cases, contains_nil}
use Rattle.meaning_runs.specs.Bodies.{Body, code_of}
use Rattle.meaning_runs.specs.EventSources.{HasSource, says_nothing, falls_off, of_mark, EventsHaveSources}

module _ {E : Type 0} (P : E → Type 0) where
  abbrev pub EachIn : Code E → Type 0
  EachIn skip = Unit {0}
  EachIn (does o) = P o.event
  EachIn (leave w) = Unit {0}
  EachIn (then_code a b) = EachIn a × EachIn b
  EachIn (either a b) = EachIn a × EachIn b
  EachIn (repeats a) = EachIn a
  EachIn (up_to w a) = EachIn a

  abbrev EachOf : List (Occurrence E) → Type 0
  EachOf t = (o : Occurrence E) → Contains t o → P o.event

  each_of_both : (t u r : List (Occurrence E)) → r ≡ t ++ u → EachOf t → EachOf u → EachOf r
  each_of_both t u r e h k o among =
      elim (Contains-append_cases t u o (subst (λ l. Contains l o) e among)) [ inl x ↦ h o x | inr x ↦ k o x ]

  each_of_one : (o : Occurrence E) → P o.event → EachOf (o ∷ [])
  each_of_one o h x among =
      elim (contains_cases o x [] among) [ inl q ↦ subst (λ (y : Occurrence E). P y.event) q h | inr n ↦ absurd (contains_nil x n) ]

  pub list_has : (c : Code E) (t : List (Occurrence E)) (x : Exit) → Lists c t x → EachIn c → EachOf t
  list_has c t x not_begun h = λ o n. absurd (contains_nil o n)
  list_has c t x skipped h = λ o n. absurd (contains_nil o n)
  list_has c t x (done {o = o}) h = each_of_one o h
  list_has c t x (just_done {o = o}) h = each_of_one o h
  list_has c t x left h = λ o n. absurd (contains_nil o n)
  list_has c t x (ends_in_first {a} {b} l n) h = list_has a t x l h.0
  list_has c t x (goes_on {a} {b} {t = s} {u = u} {x = y} l k e) h =
      each_of_both s u t e (list_has a s _ l h.0) (list_has b u x k h.1)
  list_has c t x (in_first {a} {b} l) h = list_has a t x l h.0
  list_has c t x (in_second {a} {b} l) h = list_has b t x l h.1
  list_has c t x (ends_in_turn {a} l n) h = list_has a t x l h
  list_has c t x (turns_again {a} {t = s} {u = u} l k e) h =
      each_of_both s u t e (list_has a s _ l h) (list_has (repeats a) u x k h)
  list_has c t x (arrives {w} {a} l) h = list_has a t _ l h
  list_has c t x (passes {w} {a} l n) h = list_has a t x l h

  chosen : (b : Bool) (c d : Code E) → EachIn c → EachIn d → EachIn (if b then c else d)
  chosen true c d h k = h
  chosen false c d h k = k

  labels : (way : Option (List ℕ) → Way) (ls : List (List ℕ)) (c : Code E) → EachIn c → EachIn (up_to_labels way ls c)
  labels way [] c h = h
  labels way (l ∷ ls) c h = labels way ls c h

  looped : (ls : List (List ℕ)) (header : Code E) (may_end : Bool) (body post : Code E) → EachIn header → EachIn body → EachIn post → EachIn (loop ls header may_end body post)
  looped ls header may_end body post h k m =
      let turn = then_code (turns_end ls body) post in
      labels breaking ls (repeats (then_code header (if may_end then either (leave (breaking None)) turn else turn))) (h, chosen may_end (either (leave (breaking None)) turn) turn (tt, (labels continuing ls body k, m)) (labels continuing ls body k, m))

  falls_in : (ats : List ℕ) (c : Code E) → EachIn c → EachIn (up_to_falls ats c)
  falls_in [] c h = h
  falls_in (at ∷ ats) c h = falls_in ats c h

  switched : (ls : List (List ℕ)) (ats : List ℕ) (header clauses : Code E) → EachIn header → EachIn clauses → EachIn (switch_code ls ats header clauses)
  switched ls [] header clauses h k = (h, labels breaking ls clauses k)
  switched ls (at ∷ ats) header clauses h k =
      let turn = then_code header (then_code clauses (leave (breaking None))) in
      labels breaking ls (repeats (up_to_falls (at ∷ ats) turn)) (falls_in (at ∷ ats) turn (h, (k, tt)))

  or_jumping : (js : List ℕ) (c d : Code E) → EachIn c → EachIn d → EachIn (jumping_or js c d)
  or_jumping [] c d h k = k
  or_jumping (j ∷ js) c d h k = h

  past : (cs : CaseClauses) (c : Code E) → EachIn c → EachIn (or_past cs c)
  past no_case c h = tt
  past (case_and es ss span cs) c h = chosen (has_default (case_and es ss span cs)) c (either c skip) h (h, tt)

  next_case : (c : Code E) (cs : CaseClauses) (d : Code E) → EachIn c → EachIn d → EachIn (or_case c cs d)
  next_case c no_case d h k = h
  next_case c (case_and es ss span cs) d h k = (h, k)

  next_communication : (c : Code E) (cs : CommunicationClauses) (d : Code E) → EachIn c → EachIn d → EachIn (or_communication c cs d)
  next_communication c no_communication d h k = h
  next_communication c (communication_and x ss span cs) d h k = (h, k)

  module _ (sites : Sites E) (nothing : P sites.other) (at_end : P sites.returns) (given : (at : ℕ) (e : E) → Contains (sites.events at) e → P e) where
    of_either : (es : List E) → ((e : E) → Contains es e → P e) → (e : E) → Contains (or_other sites es) e → P e
    of_either [] h e among =
        elim (contains_cases sites.other e [] among) [ inl q ↦ subst P q nothing | inr n ↦ absurd (contains_nil e n) ]
    of_either (x ∷ es) h e among = h e among

    ordered : (at order : ℕ) (es : List E) → ((e : E) → Contains es e → P e) → EachIn (in_order sites at order es)
    ordered at order [] h = tt
    ordered at order (e ∷ es) h = (h e (contains_here e es), ordered at (order + 1) es (λ x k. h x (contains_there e x es k)))

    of_site : (at : ℕ) → EachIn (site sites at)
    of_site at = ordered at 0 (or_other sites (sites.events at)) (of_either (sites.events at) (given at))

    of_branch : (brace : ℕ) (code : Code E) → EachIn code → EachIn (branch sites brace code)
    of_branch brace code h = by (sites.events brace) (given brace)
      where
        by : (es : List E) → ((e : E) → Contains es e → P e) → EachIn (behind_events sites brace es code)
        by [] all = h
        by (e ∷ es) all = (ordered brace 0 (e ∷ es) all, h)

    of_specs : (specs : Specs) (e : E) → Contains (spec_events sites specs) e → P e
    of_specs no_spec e among = absurd (contains_nil e among)
    of_specs (value_and ns t es span specs) e among =
        elim (Contains-append_cases (or_other sites (sites.events span.start)) (spec_events sites specs) e among) [ inl h ↦ of_either (sites.events span.start) (given span.start) e h | inr h ↦ of_specs specs e h ]
    of_specs (type_and n ps is_alias t span specs) e among =
        elim (Contains-append_cases (or_other sites (sites.events span.start)) (spec_events sites specs) e among) [ inl h ↦ of_either (sites.events span.start) (given span.start) e h | inr h ↦ of_specs specs e h ]

    of_declaration : (d : Declaration) → EachIn (declaration_code sites d)
    of_declaration (declaration_of keyword specs is_grouped span) =
        ordered span.start 0 (spec_events sites specs) (of_specs specs)

    mutual
      unfolding statement_code form_code optional_code statements_code cases_code communications_code

      of_statement : (ls : List (List ℕ)) (s : Statement) → EachIn (statement_code sites ls s)
      of_statement ls (statement_node form span) = of_form ls span.start form

      of_form : (ls : List (List ℕ)) (at : ℕ) (form : StatementForm) → EachIn (form_code sites ls at form)
      of_form ls at empty_statement = tt
      of_form ls at (declaration_statement d) = of_declaration d
      of_form ls at (labeled_statement n s) = of_statement (n.text ∷ ls) s
      of_form ls at (expression_statement e) =
          chosen (sites.panics at) (then_code (site sites at) stuck) (site sites at) (of_site at, tt) (of_site at)
      of_form ls at (send_statement c v) = of_site at
      of_form ls at (increment_statement e) = of_site at
      of_form ls at (decrement_statement e) = of_site at
      of_form ls at (assignment l r) = of_site at
      of_form ls at (operator_assignment op l r) = of_site at
      of_form ls at (define_statement ns right) = of_site at
      of_form ls at (go_statement e) = of_site at
      of_form ls at (defer_statement e) = of_site at
      of_form ls at (return_statement es) = (of_site at, tt)
      of_form ls at (break_statement n) = (of_site at, tt)
      of_form ls at (continue_statement n) = (of_site at, tt)
      of_form ls at (goto_statement n) = (of_site at, tt)
      of_form ls at fallthrough_statement = (of_site at, tt)
      of_form ls at (block_statement ss braces) = of_statements ss
      of_form ls at (if_statement init has_semicolon c ss braces otherwise) =
          let block = of_branch braces.start (statements_code sites ss) (of_statements ss) in
          let past = of_branch (braces.end - 1) (optional_code sites otherwise) (of_optional otherwise) in
          (of_optional init, (of_site at, (block, past)))
      of_form ls at (for_statement init c post has_semicolons ss braces) =
          (of_optional init, looped ls (site sites at) (is_present c) (statements_code sites ss) (optional_code sites post) (of_site at) (of_statements ss) (of_optional post))
      of_form ls at (range_assignment l e ss braces) =
          looped ls (site sites at) true (statements_code sites ss) skip (of_site at) (of_statements ss) tt
      of_form ls at (range_definition ns e ss braces) =
          looped ls (site sites at) true (statements_code sites ss) skip (of_site at) (of_statements ss) tt
      of_form ls at (switch_statement init has_semicolon tag cs) =
          (of_optional init, switched ls (clauses_fall cs) (site sites at) (or_past cs (cases_code sites cs)) (of_site at) (past cs (cases_code sites cs) (of_cases cs)))
      of_form ls at (type_switch_statement init has_semicolon n e cs) =
          (of_optional init, (of_site at, labels breaking ls (or_past cs (cases_code sites cs)) (past cs (cases_code sites cs) (of_cases cs))))
      of_form ls at (select_statement cs) =
          (of_site at, labels breaking ls (communications_code sites cs) (of_communications cs))

      of_optional : (s : OptionalStatement) → EachIn (optional_code sites s)
      of_optional missing_statement = tt
      of_optional (present_statement s) = of_statement [] s

      of_statements : (ss : Statements) → EachIn (statements_code sites ss)
      of_statements no_statement = tt
      of_statements (statement_and s ss) = (of_statement [] s, of_statements ss)

      of_cases : (cs : CaseClauses) → EachIn (cases_code sites cs)
      of_cases no_case = tt
      of_cases (case_and es ss span cs) =
          next_case (then_code (site sites span.start) (statements_code sites ss)) cs (cases_code sites cs) (of_site span.start, of_statements ss) (of_cases cs)

      of_communications : (cs : CommunicationClauses) → EachIn (communications_code sites cs)
      of_communications no_communication = tt
      of_communications (communication_and c ss span cs) =
          next_communication (then_code (site sites span.start) (statements_code sites ss)) cs (communications_code sites cs) (of_site span.start, of_statements ss) (of_communications cs)

    of_part : (p : Part) → EachIn (part_code sites p)
    of_part (declaration_part d) = of_declaration d
    of_part (return_part at) = (of_site at, tt)
    of_part (goto_part at) = of_site at
    of_part (plain_part at) = of_site at

    of_parts : (ps : List Part) → EachIn (one_of sites ps)
    of_parts [] = tt
    of_parts (p ∷ ps) = (of_part p, of_parts ps)

    of_block : (ss : Statements) → EachIn (block_code sites ss)
    of_block ss =
        or_jumping (jumps_in ss) (jumping_code sites (parts_of ss)) (statements_code sites ss)
        (looped [] skip true (one_of sites (parts_of ss)) skip tt (of_parts (parts_of ss)) tt) (of_statements ss)

    pub of_body : (b : Block) → EachIn (body_code sites b)
    of_body b = (nothing, (of_block b.statements, at_end))

-- the marks that give what stands at a site
pub marked : (seen : Seen) (body : ℕ) (marks : List Placed) (at : ℕ) (e : Event)
    → Contains (events_at seen body marks at) e
    → (p : Placed) × Contains marks p × (is_body body p.bodies ≡ true) × Contains (mark_events seen p.bodies p.mark) e
marked seen body [] at e among = absurd (contains_nil e among)
marked seen body (p ∷ ps) at e among =
    by (is_body body p.bodies) (is_site p.mark at) refl among (marked seen body ps at e)
  where
    by : (b c : Bool) → is_body body p.bodies ≡ b
        → Contains (if b && c then mark_events seen p.bodies p.mark ++ events_at seen body ps at else events_at seen body ps at) e
        → (Contains (events_at seen body ps at) e → (q : Placed) × Contains ps q × (is_body body q.bodies ≡ true) × Contains (mark_events seen q.bodies q.mark) e)
        → (q : Placed) × Contains (p ∷ ps) q × (is_body body q.bodies ≡ true) × Contains (mark_events seen q.bodies q.mark) e
    by true true is h further =
        elim (Contains-append_cases (mark_events seen p.bodies p.mark) (events_at seen body ps at) e h) [
          | inl k ↦ (p, contains_here p ps, is, k)
          | inr k ↦ let r = further k in (r.0, contains_there p r.0 ps r.1, r.2, r.3)
        ]
    by true false is h further = let r = further h in (r.0, contains_there p r.0 ps r.1, r.2, r.3)
    by false c is h further = let r = further h in (r.0, contains_there p r.0 ps r.1, r.2, r.3)

pub has_source : (b : Body) (t : List (Occurrence Event)) (x : Exit) → Lists (code_of b) t x
    → (o : Occurrence Event) → Contains t o
    → HasSource b o.event
has_source b t x lists =
    list_has (HasSource b) (code_of b) t x lists (of_body (HasSource b) (sites_of b.file b.place.at) says_nothing falls_off (λ at e h. let r = marked b.file b.place.at b.file.marks at e h in of_mark r.0 r.1 r.2 r.3) record { statements = b.place.statements; braces = b.place.braces })

pub events_have_sources : EventsHaveSources
events_have_sources b t o reached = has_source b (t ++ o ∷ []) stopped reached o (Contains-append_right t (o ∷ []) o (contains_here o []))

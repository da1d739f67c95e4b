-- The lists of a code that leaves the body after each return: no event but the last is a return.
use Rattle.std.proofs.Common.{◌≡◌, ◌≢◌, ℕ, ◌+◌, Bool, true, false, ◌⊎◌, inl, inr, List, [], ◌∷◌, ◌++◌, Option, None, Contains, refl, sym, ap, ◌∙◌, subst, append-nil}
use Rattle.std.specs.Prelude.{if◌then◌else◌, ◌-◌}
use Rattle.std.proofs.lemmas.List.Elements.{Contains-append_cases, Contains-append_left, Contains-append_right}
use Rattle.tree.specs.Syntax.{Statement, statement_node, StatementForm, empty_statement, declaration_statement, labeled_statement, expression_statement, send_statement, increment_statement, decrement_statement, assignment, operator_assignment, define_statement, go_statement, defer_statement, return_statement, break_statement, continue_statement, goto_statement, fallthrough_statement, block_statement, if_statement, for_statement, range_assignment, range_definition, switch_statement, type_switch_statement, select_statement, Statements, no_statement, statement_and, OptionalStatement, missing_statement, present_statement, CaseClauses, no_case, case_and, CommunicationClauses, no_communication, communication_and, Declaration, declaration_of, Specs, no_spec, value_and, type_and, Block}
use Rattle.meaning.specs.Code.{Occurrence, Way, returning, breaking, continuing, falling, Code, skip, does, leave, then_code, either, repeats, up_to}
use Rattle.meaning.specs.Lists.{Exit, stopped, falls, leaves, Lists, not_begun, skipped, done, just_done, left, ends_in_first, goes_on, in_first, in_second, ends_in_turn, turns_again, arrives, passes}
use Rattle.meaning.specs.Jumps.{Part, declaration_part, return_part, goto_part, plain_part, parts_of, jumps_in}
use Rattle.meaning.specs.StatementCode.{Sites, part_code, one_of, jumping_or, jumping_code, block_code, clauses_fall, up_to_falls, switch_code, stuck, label_of, up_to_labels, breaks_end, turns_end, loop, is_present, has_default, or_case, or_communication, or_past, or_other, in_order, site, spec_events, declaration_code, statement_code, form_code, optional_code, statements_code, cases_code, communications_code, entry, last_return, body_code, branch, behind_events}
use Rattle.meaning.specs.Uses.{Event}
use Rattle.meaning.proofs.Membership.{contains_nil, contains_here, contains_there, contains_cases}
use Rattle.meaning_runs.specs.RunLists.{is_return, ReturnsComeLast}
use Rattle.meaning_runs.proofs.MentionEvents.{AreQuiet}
use Rattle.meaning_runs.proofs.PartSites.{StandsAt, AllStandAt, of_statements as parts_stand}
use Rattle.meaning_runs.proofs.AskedSites.{CodeSite, asked_at, unasked_at, asked_specs, asked_declaration, asked_statement, asked_form, asked_optional, asked_statements, asked_cases, asked_communications}

-- no event but the last one is a return
abbrev pub IsLastReturn : List Event → Type 0
IsLastReturn [] = Unit {0}
IsLastReturn (e ∷ []) = Unit {0}
IsLastReturn (e ∷ f ∷ es) = (is_return e ≡ false) × IsLastReturn (f ∷ es)

pub quiet_before : (es fs : List Event) → AreQuiet es → IsLastReturn fs → IsLastReturn (es ++ fs)
quiet_before [] fs h k = k
quiet_before (e ∷ es) fs h k =
    one_before (es ++ fs) (h e (contains_here e es))
    (quiet_before es fs (λ f among. h f (contains_there e f es among)) k)
  where
    one_before : (gs : List Event) → is_return e ≡ false → IsLastReturn gs → IsLastReturn (e ∷ gs)
    one_before [] q l = tt
    one_before (g ∷ gs) q l = (q, l)

-- none of these events is a return
abbrev NoReturns : List (Occurrence Event) → Type 0
NoReturns t = (o : Occurrence Event) → Contains t o → is_return o.event ≡ false

none_at_all : NoReturns []
none_at_all o h = absurd (contains_nil o h)

none_in_one : (o : Occurrence Event) → is_return o.event ≡ false → NoReturns (o ∷ [])
none_in_one o q x h =
    elim (contains_cases o x [] h) [
      | inl e ↦ subst (λ (y : Occurrence Event). is_return y.event ≡ false) e q
      | inr none ↦ absurd (contains_nil x none)
    ]

none_in_both : (t u : List (Occurrence Event)) → NoReturns t → NoReturns u → NoReturns (t ++ u)
none_in_both t u h k o among = elim (Contains-append_cases t u o among) [ inl x ↦ h o x | inr x ↦ k o x ]

one_more : (o : Occurrence Event) (t : List (Occurrence Event))
    → is_return o.event ≡ false
    → ReturnsComeLast t
    → ReturnsComeLast (o ∷ t)
one_more o [] q h = tt
one_more o (x ∷ t) q h = (q, h)

none_before : (t u : List (Occurrence Event)) → NoReturns t → ReturnsComeLast u → ReturnsComeLast (t ++ u)
none_before [] u h k = k
none_before (o ∷ t) u h k =
    one_more o (t ++ u) (h o (contains_here o t)) (none_before t u (λ x among. h x (contains_there o x t among)) k)

none_come_last : (t : List (Occurrence Event)) → NoReturns t → ReturnsComeLast t
none_come_last t h = subst ReturnsComeLast (append-nil t) (none_before t [] h tt)

-- the body may go on after it
abbrev IsOpen : Exit → Type 0
IsOpen stopped = ⊥
IsOpen falls = Unit {0}
IsOpen (leaves returning) = ⊥
IsOpen (leaves (breaking l)) = Unit {0}
IsOpen (leaves (continuing l)) = Unit {0}
IsOpen (leaves (falling at)) = Unit {0}

-- Only the last event may be a return, and where the body may go on not even that one.
record Ends (t : List (Occurrence Event)) (x : Exit) : Type 0 where
  last : ReturnsComeLast t
  none : IsOpen x → NoReturns t

-- so is each list of the code
abbrev AllEnd : Code Event → Type 0
AllEnd c = (t : List (Occurrence Event)) (x : Exit) → Lists c t x → Ends t x

silent : (t : List (Occurrence Event)) (x : Exit) → NoReturns t → Ends t x
silent t x h = record { last = none_come_last t h; none = λ still. h }

nothing_yet : (x : Exit) → Ends [] x
nothing_yet x = silent [] x none_at_all

joined : (t u r : List (Occurrence Event)) (x : Exit) → r ≡ t ++ u → Ends t falls → Ends u x → Ends r x
joined t u r x e h k =
    subst (λ (l : List (Occurrence Event)). Ends l x) (sym e) record {
      last = none_before t u (h.none tt) k.last;
      none = λ still. none_in_both t u (h.none tt) (k.none still);
    }

of_skip : AllEnd skip
of_skip t x not_begun = nothing_yet x
of_skip t x skipped = nothing_yet x

of_leave : (w : Way) → AllEnd (leave w)
of_leave w t x not_begun = nothing_yet x
of_leave w t x left = nothing_yet x

of_one : (o : Occurrence Event) → is_return o.event ≡ false → AllEnd (does o)
of_one o q t x not_begun = nothing_yet x
of_one o q t x done = silent t x (none_in_one o q)
of_one o q t x just_done = silent t x (none_in_one o q)

of_both : (a b : Code Event) → AllEnd a → AllEnd b → AllEnd (then_code a b)
of_both a b h k t x not_begun = nothing_yet x
of_both a b h k t x (ends_in_first l n) = h t x l
of_both a b h k t x (goes_on {t = s} {u = u} l m e) = joined s u t x e (h s falls l) (k u x m)

of_either : (a b : Code Event) → AllEnd a → AllEnd b → AllEnd (either a b)
of_either a b h k t x not_begun = nothing_yet x
of_either a b h k t x (in_first l) = h t x l
of_either a b h k t x (in_second l) = k t x l

of_turns : (a : Code Event) → AllEnd a → AllEnd (repeats a)
of_turns a h t x not_begun = nothing_yet x
of_turns a h t x (ends_in_turn l n) = h t x l
of_turns a h t x (turns_again {t = s} {u = u} l m e) = joined s u t x e (h s falls l) (of_turns a h u x m)

of_up_to : (w : Way) (a : Code Event) → IsOpen (leaves w) → AllEnd a → AllEnd (up_to w a)
of_up_to w a still h t x not_begun = nothing_yet x
of_up_to w a still h t x (arrives l) = silent t x ((h t (leaves w) l).none still)
of_up_to w a still h t x (passes l n) = h t x l

of_labels : (way : Option (List ℕ) → Way) (ls : List (List ℕ)) (c : Code Event)
    → ((l : Option (List ℕ)) → IsOpen (leaves (way l)))
    → AllEnd c
    → AllEnd (up_to_labels way ls c)
of_labels way [] c still h = h
of_labels way (l ∷ ls) c still h =
    of_up_to (way _) (up_to_labels way ls c) (still _) (of_labels way ls c still h)

breaking_ends : (ls : List (List ℕ)) (c : Code Event) → AllEnd c → AllEnd (breaks_end ls c)
breaking_ends ls c h =
    of_up_to (breaking None) (up_to_labels breaking ls c) tt (of_labels breaking ls c (λ l. tt) h)

turning_ends : (ls : List (List ℕ)) (c : Code Event) → AllEnd c → AllEnd (turns_end ls c)
turning_ends ls c h =
    of_up_to (continuing None) (up_to_labels continuing ls c) tt (of_labels continuing ls c (λ l. tt) h)

chosen : (b : Bool) (c d : Code Event) → AllEnd c → AllEnd d → AllEnd (if b then c else d)
chosen true c d h k = h
chosen false c d h k = k

of_loop : (ls : List (List ℕ)) (header : Code Event) (may_end : Bool) (body post : Code Event)
    → AllEnd header
    → AllEnd body
    → AllEnd post
    → AllEnd (loop ls header may_end body post)
of_loop ls header may_end body post h k m =
    let turn = then_code (turns_end ls body) post in
    let turning = of_both (turns_end ls body) post (turning_ends ls body k) m in
    let ending = either (leave (breaking None)) turn in
    let once = if may_end then ending else turn in
    breaking_ends ls (repeats (then_code header once))
    (of_turns (then_code header once)
    (of_both header once h
    (chosen may_end ending turn (of_either (leave (breaking None)) turn (of_leave (breaking None)) turning) turning)))

of_falls : (ats : List ℕ) (c : Code Event) → AllEnd c → AllEnd (up_to_falls ats c)
of_falls [] c h = h
of_falls (at ∷ ats) c h = of_up_to (falling at) (up_to_falls ats c) tt (of_falls ats c h)

of_switch : (ls : List (List ℕ)) (ats : List ℕ) (header clauses : Code Event)
    → AllEnd header
    → AllEnd clauses
    → AllEnd (switch_code ls ats header clauses)
of_switch ls [] header clauses h k = of_both header (breaks_end ls clauses) h (breaking_ends ls clauses k)
of_switch ls (at ∷ ats) header clauses h k =
    let end = then_code clauses (leave (breaking None)) in
    let turn = up_to_falls (at ∷ ats) (then_code header end) in
    breaking_ends ls (repeats turn)
    (of_turns turn
    (of_falls (at ∷ ats) (then_code header end)
    (of_both header end h (of_both clauses (leave (breaking None)) k (of_leave (breaking None))))))

or_jumping : (js : List ℕ) (c d : Code Event) → AllEnd c → AllEnd d → AllEnd (jumping_or js c d)
or_jumping [] c d h k = k
or_jumping (j ∷ js) c d h k = h

of_past : (cs : CaseClauses) (c : Code Event) → AllEnd c → AllEnd (or_past cs c)
of_past no_case c h = of_skip
of_past (case_and es ss span cs) c h =
    chosen (has_default (case_and es ss span cs)) c (either c skip) h (of_either c skip h of_skip)

next_case : (c : Code Event) (cs : CaseClauses) (d : Code Event) → AllEnd c → AllEnd d → AllEnd (or_case c cs d)
next_case c no_case d h k = h
next_case c (case_and es ss span cs) d h k = of_either c d h k

next_communication : (c : Code Event) (cs : CommunicationClauses) (d : Code Event)
    → AllEnd c
    → AllEnd d
    → AllEnd (or_communication c cs d)
next_communication c no_communication d h k = h
next_communication c (communication_and x ss span cs) d h k = of_either c d h k

of_stuck : AllEnd stuck
of_stuck = of_turns skip of_skip

-- what one event and then a code do
record IsHeaded (o : Occurrence Event) (c : Code Event) (t : List (Occurrence Event)) (x : Exit) : Type 0 where
  rest : List (Occurrence Event)
  is_list : Lists c rest x
  is_it : t ≡ o ∷ rest

headed : (o : Occurrence Event) (c : Code Event) (t : List (Occurrence Event)) (x : Exit)
    → Lists (then_code (does o) c) t x
    → ((t ≡ []) ⊎ (t ≡ o ∷ [])) ⊎ IsHeaded o c t x
headed o c t x not_begun = inl (inl refl)
headed o c t x (ends_in_first not_begun n) = inl (inl refl)
headed o c t x (ends_in_first done n) = absurd (n refl)
headed o c t x (ends_in_first just_done n) = inl (inr refl)
headed o c t x (goes_on {u = u} done m e) = inr record { rest = u; is_list = m; is_it = e }

none_last : (t : List (Occurrence Event)) → t ≡ [] → ReturnsComeLast t
none_last t e = subst ReturnsComeLast (sym e) tt

one_last : (o : Occurrence Event) (t : List (Occurrence Event)) → t ≡ o ∷ [] → ReturnsComeLast t
one_last o t e = subst ReturnsComeLast (sym e) tt

skips_nothing : (t : List (Occurrence Event)) (x : Exit) → Lists {E = Event} skip t x → t ≡ []
skips_nothing t x not_begun = refl
skips_nothing t x skipped = refl

at_most_one : (o : Occurrence Event) (t : List (Occurrence Event)) (x : Exit) → Lists (does o) t x → ReturnsComeLast t
at_most_one o t x not_begun = tt
at_most_one o t x done = tt
at_most_one o t x just_done = tt

-- the exits of events in their order
abbrev IsFlat : Exit → Type 0
IsFlat stopped = Unit {0}
IsFlat falls = Unit {0}
IsFlat (leaves w) = ⊥

module _ (sites : Sites Event) (other_is : is_return sites.other ≡ false) where
  of_order : (at order : ℕ) (es : List Event) → AreQuiet es → AllEnd (in_order sites at order es)
  of_order at order [] h = of_skip
  of_order at order (e ∷ es) h =
      of_both (does record { at = at; order = order; event = e }) (in_order sites at (order + 1) es)
      (of_one record { at = at; order = order; event = e } (h e (contains_here e es)))
      (of_order at (order + 1) es λ f among. h f (contains_there e f es among))

  or_quiet : (es : List Event) → AreQuiet es → AreQuiet (or_other sites es)
  or_quiet [] h e among =
      elim (contains_cases sites.other e [] among) [
        | inl q ↦ subst (λ (f : Event). is_return f ≡ false) q other_is
        | inr none ↦ absurd (contains_nil e none)
      ]
  or_quiet (x ∷ es) h e among = h e among

  of_site : (at : ℕ) → AreQuiet (sites.events at) → AllEnd (site sites at)
  of_site at h = of_order at 0 (or_other sites (sites.events at)) (or_quiet (sites.events at) h)

  -- a return
  exits_flat : (at order : ℕ) (es : List Event) (t : List (Occurrence Event)) (x : Exit)
      → Lists (in_order sites at order es) t x
      → IsFlat x
  exits_flat at order [] t x not_begun = tt
  exits_flat at order [] t x skipped = tt
  exits_flat at order (e ∷ es) t x not_begun = tt
  exits_flat at order (e ∷ es) t x (ends_in_first not_begun n) = tt
  exits_flat at order (e ∷ es) t x (ends_in_first done n) = tt
  exits_flat at order (e ∷ es) t x (ends_in_first just_done n) = tt
  exits_flat at order (e ∷ es) t x (goes_on {u = u} l m q) = exits_flat at (order + 1) es u x m

  order_last : (at order : ℕ) (es : List Event)
      → IsLastReturn es
      → (t : List (Occurrence Event)) (x : Exit)
      → Lists (in_order sites at order es) t x
      → ReturnsComeLast t
  order_last at order [] h t x l = (of_skip t x l).last
  order_last at order (e ∷ []) h t x l =
      let o : Occurrence Event = record { at = at; order = order; event = e } in
      elim (headed o skip t x l) [
        | inl (inl q) ↦ none_last t q
        | inl (inr q) ↦ one_last o t q
        | inr w ↦ one_last o t (w.is_it ∙ ap (λ (u : List (Occurrence Event)). o ∷ u)
            (skips_nothing w.rest x w.is_list))
      ]
  order_last at order (e ∷ f ∷ es) h t x l =
      let o : Occurrence Event = record { at = at; order = order; event = e } in
      elim (headed o (in_order sites at (order + 1) (f ∷ es)) t x l) [
        | inl (inl q) ↦ none_last t q
        | inl (inr q) ↦ one_last o t q
        | inr w ↦ subst ReturnsComeLast (sym w.is_it)
            (one_more o w.rest h.0 (order_last at (order + 1) (f ∷ es) h.1 w.rest x w.is_list))
      ]

  or_last : (es : List Event) → IsLastReturn es → IsLastReturn (or_other sites es)
  or_last [] h = tt
  or_last (e ∷ es) h = h

  flat_or_falls : (x : Exit) (t : List (Occurrence Event)) → IsFlat x → x ≢ falls → IsOpen x → NoReturns t
  flat_or_falls stopped t h n still = absurd still
  flat_or_falls falls t h n still = absurd (n refl)
  flat_or_falls (leaves w) t h n still = absurd h

  of_return : (at : ℕ) → IsLastReturn (sites.events at) → AllEnd (then_code (site sites at) (leave returning))
  of_return at h t x not_begun = nothing_yet x
  of_return at h t x (ends_in_first l n) = record {
    last = order_last at 0 (or_other sites (sites.events at)) (or_last (sites.events at) h) t x l;
    none = flat_or_falls x t (exits_flat at 0 (or_other sites (sites.events at)) t x l) n;
  }
  of_return at h t x (goes_on {t = s} l not_begun e) = record {
    last = subst ReturnsComeLast (sym (e ∙ append-nil s))
        (order_last at 0 (or_other sites (sites.events at)) (or_last (sites.events at) h) s falls l);
    none = λ still. absurd still;
  }
  of_return at h t x (goes_on {t = s} l left e) = record {
    last = subst ReturnsComeLast (sym (e ∙ append-nil s))
        (order_last at 0 (or_other sites (sites.events at)) (or_last (sites.events at) h) s falls l);
    none = λ still. absurd still;
  }

  -- no event at one of these sites is a return
  abbrev AllQuiet : List CodeSite → Type 0
  AllQuiet asks = (s : ℕ) → Contains asks (asked_at s) → AreQuiet (sites.events s)

  first_quiet : (s : ℕ) (asks : List CodeSite) → AllQuiet (asked_at s ∷ asks) → AreQuiet (sites.events s)
  first_quiet s asks h = h s (contains_here (asked_at s) asks)

  behind_quiet : (t : CodeSite) (asks : List CodeSite) → AllQuiet (t ∷ asks) → AllQuiet asks
  behind_quiet t asks h n among = h n (contains_there t (asked_at n) asks among)

  rest_quiet : (s : ℕ) (asks : List CodeSite) → AllQuiet (asked_at s ∷ asks) → AllQuiet asks
  rest_quiet s = behind_quiet (asked_at s)

  left_quiet : (qs rs : List CodeSite) → AllQuiet (qs ++ rs) → AllQuiet qs
  left_quiet qs rs h n among = h n (Contains-append_left qs rs (asked_at n) among)

  right_quiet : (qs rs : List CodeSite) → AllQuiet (qs ++ rs) → AllQuiet rs
  right_quiet qs rs h n among = h n (Contains-append_right qs rs (asked_at n) among)

  quiet_in_both : (es fs : List Event) → AreQuiet es → AreQuiet fs → AreQuiet (es ++ fs)
  quiet_in_both es fs h k e among = elim (Contains-append_cases es fs e among) [ inl x ↦ h e x | inr x ↦ k e x ]

  of_specs : (specs : Specs) → AllQuiet (asked_specs specs) → AreQuiet (spec_events sites specs)
  of_specs no_spec h = λ e none. absurd (contains_nil e none)
  of_specs (value_and ns t es span specs) h =
      quiet_in_both (or_other sites (sites.events span.start)) (spec_events sites specs)
      (or_quiet (sites.events span.start) (first_quiet span.start (asked_specs specs) h))
      (of_specs specs (rest_quiet span.start (asked_specs specs) h))
  of_specs (type_and n ps is_alias t span specs) h =
      quiet_in_both (or_other sites (sites.events span.start)) (spec_events sites specs)
      (or_quiet (sites.events span.start) (first_quiet span.start (asked_specs specs) h))
      (of_specs specs (rest_quiet span.start (asked_specs specs) h))

  of_branch : (brace : ℕ) (code : Code Event) → AreQuiet (sites.events brace) → AllEnd code → AllEnd (branch sites brace code)
  of_branch brace code h k = by (sites.events brace) h
    where
      by : (es : List Event) → AreQuiet es → AllEnd (behind_events sites brace es code)
      by [] quiet = k
      by (e ∷ es) quiet = of_both (in_order sites brace 0 (e ∷ es)) code (of_order brace 0 (e ∷ es) quiet) k

  of_declaration : (d : Declaration) → AllQuiet (asked_declaration d) → AllEnd (declaration_code sites d)
  of_declaration (declaration_of keyword specs is_grouped span) h =
      of_order span.start 0 (spec_events sites specs) (of_specs specs (behind_quiet (unasked_at span.start) (asked_specs specs) h))

  module _ (last : (at : ℕ) → IsLastReturn (sites.events at)) where
    mutual
      unfolding statement_code form_code optional_code statements_code cases_code communications_code asked_statement
          asked_form asked_optional asked_statements asked_cases asked_communications

      of_statement : (ls : List (List ℕ)) (s : Statement)
          → AllQuiet (asked_statement s)
          → AllEnd (statement_code sites ls s)
      of_statement ls (statement_node form span) h = of_form ls span.start form h

      of_form : (ls : List (List ℕ)) (at : ℕ) (form : StatementForm)
          → AllQuiet (asked_form at form)
          → AllEnd (form_code sites ls at form)
      of_form ls at empty_statement h = of_skip
      of_form ls at (declaration_statement d) h = of_declaration d h
      of_form ls at (labeled_statement n s) h = of_statement (n.text ∷ ls) s h
      of_form ls at (expression_statement e) h =
          let here = of_site at (first_quiet at [] h) in
          chosen (sites.panics at) (then_code (site sites at) stuck) (site sites at)
          (of_both (site sites at) stuck here of_stuck) here
      of_form ls at (send_statement c v) h = of_site at (first_quiet at [] h)
      of_form ls at (increment_statement e) h = of_site at (first_quiet at [] h)
      of_form ls at (decrement_statement e) h = of_site at (first_quiet at [] h)
      of_form ls at (assignment l r) h = of_site at (first_quiet at [] h)
      of_form ls at (operator_assignment op l r) h = of_site at (first_quiet at [] h)
      of_form ls at (define_statement ns right) h = of_site at (first_quiet at [] h)
      of_form ls at (go_statement e) h = of_site at (first_quiet at [] h)
      of_form ls at (defer_statement e) h = of_site at (first_quiet at [] h)
      of_form ls at (return_statement es) h = of_return at (last at)
      of_form ls at (break_statement n) h =
          of_both (site sites at) (leave (breaking (label_of n))) (of_site at (first_quiet at [] h))
          (of_leave (breaking (label_of n)))
      of_form ls at (continue_statement n) h =
          of_both (site sites at) (leave (continuing (label_of n))) (of_site at (first_quiet at [] h))
          (of_leave (continuing (label_of n)))
      of_form ls at (goto_statement n) h =
          of_both (site sites at) stuck (of_site at (first_quiet at [] h)) of_stuck
      of_form ls at fallthrough_statement h =
          of_both (site sites at) (leave (falling at)) (of_site at (first_quiet at [] h)) (of_leave (falling at))
      of_form ls at (block_statement ss braces) h = of_statements ss h
      of_form ls at (if_statement init has_semicolon c ss braces otherwise) h =
          let body = asked_at braces.start ∷ asked_statements ss in
          let past = asked_at (braces.end - 1) ∷ asked_optional otherwise in
          let q = first_quiet at (asked_optional init ++ (body ++ past)) h in
          let k = rest_quiet at (asked_optional init ++ (body ++ past)) h in
          let m = right_quiet (asked_optional init) (body ++ past) k in
          let one = branch sites braces.start (statements_code sites ss) in
          let other = branch sites (braces.end - 1) (optional_code sites otherwise) in
          let own = left_quiet body past m in
          let behind = right_quiet body past m in
          of_both (optional_code sites init) (then_code (site sites at) (either one other))
          (of_optional init (left_quiet (asked_optional init) (body ++ past) k))
          (of_both (site sites at) (either one other) (of_site at q)
          (of_either one other
          (of_branch braces.start (statements_code sites ss) (first_quiet braces.start (asked_statements ss) own)
          (of_statements ss (rest_quiet braces.start (asked_statements ss) own)))
          (of_branch (braces.end - 1) (optional_code sites otherwise) (first_quiet (braces.end - 1) (asked_optional otherwise) behind)
          (of_optional otherwise (rest_quiet (braces.end - 1) (asked_optional otherwise) behind)))))
      of_form ls at (for_statement init c post has_semicolons ss braces) h =
          let ends = asked_optional init ++ asked_optional post in
          let q = first_quiet at (ends ++ asked_statements ss) h in
          let k = rest_quiet at (ends ++ asked_statements ss) h in
          let m = left_quiet ends (asked_statements ss) k in
          of_both (optional_code sites init)
          (loop ls (site sites at) (is_present c) (statements_code sites ss) (optional_code sites post))
          (of_optional init (left_quiet (asked_optional init) (asked_optional post) m))
          (of_loop ls (site sites at) (is_present c) (statements_code sites ss) (optional_code sites post)
          (of_site at q)
          (of_statements ss (right_quiet ends (asked_statements ss) k))
          (of_optional post (right_quiet (asked_optional init) (asked_optional post) m)))
      of_form ls at (range_assignment l e ss braces) h =
          of_loop ls (site sites at) true (statements_code sites ss) skip
          (of_site at (first_quiet at (asked_statements ss) h))
          (of_statements ss (rest_quiet at (asked_statements ss) h)) of_skip
      of_form ls at (range_definition ns e ss braces) h =
          of_loop ls (site sites at) true (statements_code sites ss) skip
          (of_site at (first_quiet at (asked_statements ss) h))
          (of_statements ss (rest_quiet at (asked_statements ss) h)) of_skip
      of_form ls at (switch_statement init has_semicolon tag cs) h =
          let k = rest_quiet at (asked_optional init ++ asked_cases cs) h in
          let clauses = or_past cs (cases_code sites cs) in
          of_both (optional_code sites init) (switch_code ls (clauses_fall cs) (site sites at) clauses)
          (of_optional init (left_quiet (asked_optional init) (asked_cases cs) k))
          (of_switch ls (clauses_fall cs) (site sites at) clauses
          (of_site at (first_quiet at (asked_optional init ++ asked_cases cs) h))
          (of_past cs (cases_code sites cs) (of_cases cs (right_quiet (asked_optional init) (asked_cases cs) k))))
      of_form ls at (type_switch_statement init has_semicolon n e cs) h =
          let k = rest_quiet at (asked_optional init ++ asked_cases cs) h in
          let inner = breaks_end ls (or_past cs (cases_code sites cs)) in
          of_both (optional_code sites init) (then_code (site sites at) inner)
          (of_optional init (left_quiet (asked_optional init) (asked_cases cs) k))
          (of_both (site sites at) inner (of_site at (first_quiet at (asked_optional init ++ asked_cases cs) h))
          (breaking_ends ls (or_past cs (cases_code sites cs)) (of_past cs (cases_code sites cs)
          (of_cases cs (right_quiet (asked_optional init) (asked_cases cs) k)))))
      of_form ls at (select_statement cs) h =
          of_both (site sites at) (breaks_end ls (communications_code sites cs))
          (of_site at (first_quiet at (asked_communications cs) h))
          (breaking_ends ls (communications_code sites cs)
          (of_communications cs (rest_quiet at (asked_communications cs) h)))

      of_optional : (s : OptionalStatement) → AllQuiet (asked_optional s) → AllEnd (optional_code sites s)
      of_optional missing_statement h = of_skip
      of_optional (present_statement s) h = of_statement [] s h

      of_statements : (ss : Statements) → AllQuiet (asked_statements ss) → AllEnd (statements_code sites ss)
      of_statements no_statement h = of_skip
      of_statements (statement_and s ss) h =
          of_both (statement_code sites [] s) (statements_code sites ss)
          (of_statement [] s (left_quiet (asked_statement s) (asked_statements ss) h))
          (of_statements ss (right_quiet (asked_statement s) (asked_statements ss) h))

      of_cases : (cs : CaseClauses) → AllQuiet (asked_cases cs) → AllEnd (cases_code sites cs)
      of_cases no_case h = of_stuck
      of_cases (case_and es ss span cs) h =
          let k = left_quiet (asked_at span.start ∷ asked_statements ss) (asked_cases cs) h in
          next_case (then_code (site sites span.start) (statements_code sites ss)) cs (cases_code sites cs)
          (of_both (site sites span.start) (statements_code sites ss)
          (of_site span.start (first_quiet span.start (asked_statements ss) k))
          (of_statements ss (rest_quiet span.start (asked_statements ss) k)))
          (of_cases cs (right_quiet (asked_at span.start ∷ asked_statements ss) (asked_cases cs) h))

      of_communications : (cs : CommunicationClauses)
          → AllQuiet (asked_communications cs)
          → AllEnd (communications_code sites cs)
      of_communications no_communication h = of_stuck
      of_communications (communication_and c ss span cs) h =
          let k = left_quiet (asked_at span.start ∷ asked_statements ss) (asked_communications cs) h in
          next_communication (then_code (site sites span.start) (statements_code sites ss)) cs
          (communications_code sites cs)
          (of_both (site sites span.start) (statements_code sites ss)
          (of_site span.start (first_quiet span.start (asked_statements ss) k))
          (of_statements ss (rest_quiet span.start (asked_statements ss) k)))
          (of_communications cs (right_quiet (asked_at span.start ∷ asked_statements ss) (asked_communications cs) h))

    of_part : (asks : List CodeSite) → AllQuiet asks → (p : Part) → StandsAt asks p → AllEnd (part_code sites p)
    of_part asks h (declaration_part d) k = of_declaration d (λ n among. h n (k (asked_at n) among))
    of_part asks h (return_part at) k = of_return at (last at)
    of_part asks h (goto_part at) k = of_site at (h at k)
    of_part asks h (plain_part at) k = of_site at (h at k)

    of_parts : (asks : List CodeSite) → AllQuiet asks → (ps : List Part) → AllStandAt asks ps → AllEnd (one_of sites ps)
    of_parts asks h [] k = of_skip
    of_parts asks h (p ∷ ps) k =
        of_either (part_code sites p) (one_of sites ps) (of_part asks h p k.0) (of_parts asks h ps k.1)

    of_block : (ss : Statements) → AllQuiet (asked_statements ss) → AllEnd (block_code sites ss)
    of_block ss h =
        or_jumping (jumps_in ss) (jumping_code sites (parts_of ss)) (statements_code sites ss)
        (of_loop [] skip true (one_of sites (parts_of ss)) skip of_skip
        (of_parts (asked_statements ss) h (parts_of ss) (parts_stand ss)) of_skip)
        (of_statements ss h)

    -- the statements, and then the return at the body's end
    up_to_the_end : (b : Block) (t : List (Occurrence Event)) (x : Exit)
        → AllEnd (block_code sites b.statements)
        → Lists (then_code (block_code sites b.statements) (does (last_return sites b))) t x
        → ReturnsComeLast t
    up_to_the_end b t x h not_begun = tt
    up_to_the_end b t x h (ends_in_first l n) = (h t x l).last
    up_to_the_end b t x h (goes_on {t = s} {u = u} l m e) =
        subst ReturnsComeLast (sym e) (none_before s u ((h s falls l).none tt)
        (at_most_one (last_return sites b) u x m))

    pub body_lists_end : (b : Block) (t : List (Occurrence Event)) (x : Exit)
        → AllQuiet (asked_statements b.statements)
        → Lists (body_code sites b) t x
        → ReturnsComeLast t
    body_lists_end b t x h l =
        elim (headed (entry sites b) (then_code (block_code sites b.statements)
        (does (last_return sites b))) t x l) [
          | inl (inl q) ↦ none_last t q
          | inl (inr q) ↦ one_last (entry sites b) t q
          | inr w ↦ subst ReturnsComeLast (sym w.is_it)
              (one_more (entry sites b) w.rest other_is
              (up_to_the_end b w.rest x (of_block b.statements h) w.is_list))
        ]

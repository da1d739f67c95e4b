-- The occurrences of a body's code stand at the sites of its statements, in the order of each site's events; so no two
-- of them have one place where no two of these sites do.
use Rattle.std.proofs.Common.{◌≡◌, ℕ, zero, suc, ◌+◌, ◌≤◌, inl, inr, Bool, true, false, List, [], ◌∷◌, ◌++◌, Option, Some, None, Contains, refl, sym, ap, ◌∙◌, subst, arith, append_assoc, append-nil}
use Rattle.std.specs.Prelude.{◌-◌, if◌then◌else◌, slice_get}
use Rattle.std.proofs.lemmas.Option.{slice_get_within, get_or_from_slice_get}
use Rattle.std.proofs.lemmas.List.Elements.{Contains-append_left, Contains-append_right, Contains-append_cases}
use Rattle.tree.specs.Syntax.{Statement, statement_node, StatementForm, empty_statement, declaration_statement, labeled_statement, expression_statement, send_statement, increment_statement, decrement_statement, assignment, operator_assignment, define_statement, go_statement, defer_statement, return_statement, break_statement, continue_statement, goto_statement, fallthrough_statement, block_statement, if_statement, for_statement, range_assignment, range_definition, switch_statement, type_switch_statement, select_statement, Statements, no_statement, statement_and, OptionalStatement, missing_statement, present_statement, CaseClauses, no_case, case_and, CommunicationClauses, no_communication, communication_and, Declaration, declaration_of}
use Rattle.meaning.specs.Code.{Occurrence, Way, breaking, continuing, Code, skip, leave, then_code, either}
use Rattle.meaning.specs.Jumps.{Part, plain_part, statement_parts, form_parts, parts_of, optional_parts, cases_parts, communications_parts, jumps_in}
use Rattle.meaning.specs.StatementCode.{Sites, is_present, part_code, one_of, jumping_or, jumping_code, block_code, clauses_fall, up_to_falls, switch_code, up_to_labels, breaks_end, turns_end, loop, has_default, or_case, or_communication, or_past, stuck, or_other, in_order, site, spec_events, declaration_code, statement_code, form_code, optional_code, statements_code, cases_code, communications_code, entry, last_return, body_code, branch, behind_events}
use Rattle.meaning.specs.Mentions.{BodyPlace, file_marks, marks_by, opens}
use Rattle.meaning.specs.Tracked.{placed, some_keep}
use Rattle.meaning.specs.BodyEvents.{opened_in}
use Rattle.meaning_packages.proofs.BodyPlaces.{placed_only}
use Rattle.meaning.proofs.Membership.{contains_nil, contains_here, contains_there, contains_cases}
use Rattle.meaning_packages.specs.PathFaults.{block_of}
use Rattle.meaning_runs.specs.OccurrencePlaces.{occurrences, OccurrencesHavePlaces, OccurrencesLieInTexts}
use Rattle.meaning_runs.proofs.AskedSites.{CodeSite, asked_at, unasked_at, place_of, AreDistinct, asked_specs, asked_declaration, asked_statement, asked_form, asked_optional, asked_statements, asked_cases, asked_communications, asked_body}
use Rattle.meaning_runs.proofs.SitesWithin.{distinct_both}
use Rattle.meaning_runs.proofs.BodyOffsets.{opens_one, are_sited}
use Rattle.meaning_runs.proofs.EditionMarks.{among_all}

-- Sites

-- no site of the one list has the place of one of the other
abbrev AreOff : List CodeSite → List CodeSite → Type 0
AreOff qs rs = (s t : CodeSite) → Contains qs s → Contains rs t → place_of s ≡ place_of t → ⊥

left_distinct : (qs rs : List CodeSite) → AreDistinct (qs ++ rs) → AreDistinct qs
left_distinct [] rs h = tt
left_distinct (q ∷ qs) rs h = (λ t k. h.0 t (Contains-append_left qs rs t k), left_distinct qs rs h.1)

right_distinct : (qs rs : List CodeSite) → AreDistinct (qs ++ rs) → AreDistinct rs
right_distinct [] rs h = h
right_distinct (q ∷ qs) rs h = right_distinct qs rs h.1

are_off : (qs rs : List CodeSite) → AreDistinct (qs ++ rs) → AreOff qs rs
are_off [] rs h s t k l e = contains_nil s k
are_off (q ∷ qs) rs h s t k l e = elim (contains_cases q s qs k) [
  | inl same ↦ h.0 t (Contains-append_right qs rs t l) (ap place_of same ∙ e)
  | inr later ↦ are_off qs rs h.1 s t later l e
]

-- the first site behind others
moved_first : (q : CodeSite) (qs rs : List CodeSite) → AreDistinct (q ∷ (qs ++ rs)) → AreDistinct (qs ++ (q ∷ rs))
moved_first q qs rs h =
    distinct_both qs (q ∷ rs) (left_distinct qs rs h.1)
    (λ t k. h.0 t (Contains-append_right qs rs t k), right_distinct qs rs h.1)
    (λ s t k l e. elim (contains_cases q t rs l) [
      | inl same ↦ h.0 s (Contains-append_left qs rs s k) (ap place_of same ∙ sym e)
      | inr later ↦ are_off qs rs h.1 s t k later e
    ])

put_back : (q : CodeSite) (qs rs : List CodeSite) (t : CodeSite) → Contains (qs ++ (q ∷ rs)) t → Contains (q ∷ (qs ++ rs)) t
put_back q qs rs t k = elim (Contains-append_cases qs (q ∷ rs) t k) [
  | inl first ↦ contains_there q t (qs ++ rs) (Contains-append_left qs rs t first)
  | inr second ↦ elim (contains_cases q t rs second) [
    | inl same ↦ subst (λ x. Contains (q ∷ (qs ++ rs)) x) same (contains_here q (qs ++ rs))
    | inr later ↦ contains_there q t (qs ++ rs) (Contains-append_right qs rs t later)
  ]
]

-- Occurrences at sites

abbrev AreApart : {E : Type 0} → List (Occurrence E) → Type 0
AreApart [] = Unit {0}
AreApart {E} (o ∷ os) = ((p : Occurrence E) → Contains os p → o.at ≡ p.at → o.order ≡ p.order → ⊥) × AreApart os

-- they stand at these sites, and no two at one place
record Stand {E : Type 0} (os : List (Occurrence E)) (ts : List CodeSite) : Type 0 where
  inside : (o : Occurrence E) → Contains os o → (t : CodeSite) × Contains ts t × (o.at ≡ place_of t)
  apart : AreApart os

module _ {E : Type 0} where
  apart_both : (xs ys : List (Occurrence E)) → AreApart xs → AreApart ys
      → ((o p : Occurrence E) → Contains xs o → Contains ys p → o.at ≡ p.at → o.order ≡ p.order → ⊥)
      → AreApart (xs ++ ys)
  apart_both [] ys h k across = k
  apart_both (x ∷ xs) ys h k across = (
    λ p among. elim (Contains-append_cases xs ys p among) [
      | inl c ↦ h.0 p c
      | inr c ↦ across x p (contains_here x xs) c
    ],
    apart_both xs ys h.1 k λ o p c d. across o p (contains_there x o xs c) d,
  )

  -- each of the first is one of the second, and no two are at one place where no two of the second are
  record Fewer (xs ys : List (Occurrence E)) : Type 0 where
    among : (o : Occurrence E) → Contains xs o → Contains ys o
    apart : AreApart ys → AreApart xs

  all_of : (xs : List (Occurrence E)) → Fewer xs xs
  all_of xs = record { among = λ o h. h; apart = λ h. h }

  equal_then : {xs ys zs : List (Occurrence E)} → xs ≡ ys → Fewer ys zs → Fewer xs zs
  equal_then {zs = zs} e h = subst (λ (os : List (Occurrence E)). Fewer os zs) (sym e) h

  then_equal : {xs ys zs : List (Occurrence E)} → Fewer xs ys → ys ≡ zs → Fewer xs zs
  then_equal {xs} h e = subst (λ (os : List (Occurrence E)). Fewer xs os) e h

  apart_parts : (xs ys : List (Occurrence E)) → AreApart (xs ++ ys)
      → AreApart xs × AreApart ys
      × ((o p : Occurrence E) → Contains xs o → Contains ys p → o.at ≡ p.at → o.order ≡ p.order → ⊥)
  apart_parts [] ys h = (tt, h, λ o p c d. absurd (contains_nil o c))
  apart_parts (x ∷ xs) ys h =
      let rest = apart_parts xs ys h.1 in (
        (λ p c. h.0 p (Contains-append_left xs ys p c), rest.0),
        rest.1,
        λ o p c d at order. elim (contains_cases x o xs c) [
          | inl same ↦ h.0 p (Contains-append_right xs ys p d) (ap (λ (y : Occurrence E). y.at) same ∙ at)
              (ap (λ (y : Occurrence E). y.order) same ∙ order)
          | inr later ↦ rest.2 o p later d at order
        ],
      )

  fewer_both : (xs ys us vs : List (Occurrence E)) → Fewer xs ys → Fewer us vs → Fewer (xs ++ us) (ys ++ vs)
  fewer_both xs ys us vs h k = record {
    among = λ o c. elim (Contains-append_cases xs us o c) [
      | inl first ↦ Contains-append_left ys vs o (h.among o first)
      | inr second ↦ Contains-append_right ys vs o (k.among o second)
    ];
    apart = λ all.
        let parts = apart_parts ys vs all in
        apart_both xs us (h.apart parts.0) (k.apart parts.1) λ o p c d. parts.2 o p (h.among o c) (k.among p d);
  }

  among_more : (xs ys more : List (Occurrence E)) → Fewer xs ys → Fewer xs (ys ++ more)
  among_more xs ys more h = record {
    among = λ o c. Contains-append_left ys more o (h.among o c);
    apart = λ all. h.apart (apart_parts ys more all).0;
  }

  fewer_stand : (xs ys : List (Occurrence E)) (ts : List CodeSite) → Fewer xs ys → Stand ys ts → Stand xs ts
  fewer_stand xs ys ts h s = record { inside = λ o c. s.inside o (h.among o c); apart = h.apart s.apart }

  none_stand : (ts : List CodeSite) → Stand {E = E} [] ts
  none_stand ts = record { inside = λ o none. absurd (contains_nil o none); apart = tt }

  wider_stand : (os : List (Occurrence E)) (ts us : List CodeSite) → ((t : CodeSite) → Contains ts t → Contains us t)
      → Stand os ts
      → Stand os us
  wider_stand os ts us h s = record {
    inside = λ o among. let w = s.inside o among in (w.0, h w.0 w.1, w.2);
    apart = s.apart;
  }

  joined : (xs ys : List (Occurrence E)) (qs rs : List CodeSite) → AreOff qs rs → Stand xs qs → Stand ys rs
      → Stand (xs ++ ys) (qs ++ rs)
  joined xs ys qs rs off h k = record {
    inside = λ o among. elim (Contains-append_cases xs ys o among) [
      | inl c ↦ let w = h.inside o c in (w.0, Contains-append_left qs rs w.0 w.1, w.2)
      | inr c ↦ let w = k.inside o c in (w.0, Contains-append_right qs rs w.0 w.1, w.2)
    ];
    apart = apart_both xs ys h.apart k.apart λ o p c d at order.
        let w = h.inside o c in
        let v = k.inside p d in
        off w.0 v.0 w.1 v.1 (sym w.2 ∙ at ∙ v.2);
  }

  -- the occurrences of the second part stand before those of the first
  both : (xs ys : List (Occurrence E)) (qs rs : List CodeSite) → AreDistinct (qs ++ rs) → Stand xs qs → Stand ys rs
      → Stand (ys ++ xs) (qs ++ rs)
  both xs ys qs rs distinct h k = record {
    inside = λ o among. elim (Contains-append_cases ys xs o among) [
      | inl c ↦ let w = k.inside o c in (w.0, Contains-append_right qs rs w.0 w.1, w.2)
      | inr c ↦ let w = h.inside o c in (w.0, Contains-append_left qs rs w.0 w.1, w.2)
    ];
    apart = apart_both ys xs k.apart h.apart λ o p c d at order.
        let w = k.inside o c in
        let v = h.inside p d in
        are_off qs rs distinct v.0 w.0 v.1 w.1 (sym v.2 ∙ sym at ∙ w.2);
  }

  -- what stands behind a header's first statement, at the header's site and at others
  headed : (q : CodeSite) (own first rest : List (Occurrence E)) (qs rs : List CodeSite) → AreDistinct (q ∷ (qs ++ rs))
      → Stand own (q ∷ [])
      → Stand first qs
      → Stand rest rs
      → Stand ((rest ++ own) ++ first) (q ∷ (qs ++ rs))
  headed q own first rest qs rs distinct o h k =
      let turned = moved_first q qs rs distinct in
      wider_stand ((rest ++ own) ++ first) (qs ++ (q ∷ rs)) (q ∷ (qs ++ rs)) (put_back q qs rs)
      (both first (rest ++ own) qs (q ∷ rs) turned h
      (both own rest (q ∷ []) rs (right_distinct qs (q ∷ rs) turned) o k))

  alone : (o : Occurrence E) (t : CodeSite) → o.at ≡ place_of t → Stand (o ∷ []) (t ∷ [])
  alone o t e = record {
    inside = λ p among. elim (contains_cases o p [] among) [
      | inl same ↦ (t, contains_here t [], ap (λ (x : Occurrence E). x.at) (sym same) ∙ e)
      | inr none ↦ absurd (contains_nil p none)
    ];
    apart = (λ p none. absurd (contains_nil p none), tt);
  }

  labels_end_nothing : (way : Option (List ℕ) → Way) (ls : List (List ℕ)) (c : Code E)
      → occurrences (up_to_labels way ls c) ≡ occurrences c
  labels_end_nothing way [] c = refl
  labels_end_nothing way (l ∷ ls) c = labels_end_nothing way ls c

  looped : (ls : List (List ℕ)) (header : Code E) (may_end : Bool) (body post : Code E)
      → occurrences (loop ls header may_end body post) ≡ (occurrences post ++ occurrences body) ++ occurrences header
  looped ls header may_end body post = labels_end_nothing breaking ls _ ∙ by may_end
    where
      turn : occurrences (then_code (turns_end ls body) post) ≡ occurrences post ++ occurrences body
      turn = ap (λ (os : List (Occurrence E)). occurrences post ++ os) (labels_end_nothing continuing ls body)

      by : (b : Bool)
          → occurrences (then_code header (if b then either (leave (breaking None)) (then_code (turns_end ls body) post) else then_code (turns_end ls body) post))
          ≡ (occurrences post ++ occurrences body) ++ occurrences header
      by true = ap (λ (os : List (Occurrence E)). os ++ occurrences header) (append-nil (occurrences post ++ occurrences (turns_end ls body)) ∙ turn)
      by false = ap (λ (os : List (Occurrence E)). os ++ occurrences header) turn

  falls_end_nothing : (ats : List ℕ) (c : Code E) → occurrences (up_to_falls ats c) ≡ occurrences c
  falls_end_nothing [] c = refl
  falls_end_nothing (at ∷ ats) c = falls_end_nothing ats c

  switched_occurrences : (ls : List (List ℕ)) (ats : List ℕ) (header clauses : Code E)
      → occurrences (switch_code ls ats header clauses) ≡ occurrences clauses ++ occurrences header
  switched_occurrences ls [] header clauses =
      ap (λ (os : List (Occurrence E)). os ++ occurrences header) (labels_end_nothing breaking ls clauses)
  switched_occurrences ls (at ∷ ats) header clauses =
      labels_end_nothing breaking ls _
      ∙ falls_end_nothing (at ∷ ats) (then_code header (then_code clauses (leave (breaking None))))

  past_occurrences : (cs : CaseClauses) (code : Code E) → (cs ≡ no_case → occurrences code ≡ [])
      → occurrences (or_past cs code) ≡ occurrences code
  past_occurrences no_case code none = sym (none refl)
  past_occurrences (case_and es ss span cs) code none = by (has_default (case_and es ss span cs))
    where
      by : (b : Bool) → occurrences (if b then code else either code skip) ≡ occurrences code
      by true = refl
      by false = refl

  clause_occurrences : (cs : CaseClauses) (first rest : Code E) → (cs ≡ no_case → occurrences rest ≡ [])
      → occurrences (or_case first cs rest) ≡ occurrences rest ++ occurrences first
  clause_occurrences no_case first rest none =
      ap (λ (os : List (Occurrence E)). os ++ occurrences first) (sym (none refl))
  clause_occurrences (case_and es ss span cs) first rest none = refl

  communication_occurrences : (cs : CommunicationClauses) (first rest : Code E)
      → (cs ≡ no_communication → occurrences rest ≡ [])
      → occurrences (or_communication first cs rest) ≡ occurrences rest ++ occurrences first
  communication_occurrences no_communication first rest none =
      ap (λ (os : List (Occurrence E)). os ++ occurrences first) (sym (none refl))
  communication_occurrences (communication_and c ss span cs) first rest none = refl

  perhaps_past : (cs : CaseClauses) (code : Code E) (ts : List CodeSite) → Stand (occurrences code) ts
      → Stand (occurrences (or_past cs code)) ts
  perhaps_past no_case code ts h = none_stand ts
  perhaps_past (case_and es ss span cs) code ts h = by (has_default (case_and es ss span cs))
    where
      by : (b : Bool) → Stand (occurrences (if b then code else either code skip)) ts
      by true = h
      by false = h

module _ {E : Type 0} (sites : Sites E) where
  ordered : (at order : ℕ) (es : List E) (o : Occurrence E) → Contains (occurrences (in_order sites at order es)) o
      → (o.at ≡ at) × (order ≤ o.order)
  ordered at order [] o among = absurd (contains_nil o among)
  ordered at order (e ∷ es) o among =
      let first : Occurrence E = record { at = at; order = order; event = e } in
      elim (Contains-append_cases (occurrences (in_order sites at (order + 1) es)) (first ∷ []) o among) [
        | inl later ↦ let w = ordered at (order + 1) es o later in (w.0, omega (arith, w.1))
        | inr here ↦ elim (contains_cases first o [] here) [
          | inl same ↦
              let same_at : at ≡ o.at = ap (λ (x : Occurrence E). x.at) same in
              let same_order : order ≡ o.order = ap (λ (x : Occurrence E). x.order) same in
              (sym same_at, omega (arith, same_order))
          | inr none ↦ absurd (contains_nil o none)
        ]
      ]

  order_apart : (at order : ℕ) (es : List E) → AreApart (occurrences (in_order sites at order es))
  order_apart at order [] = tt
  order_apart at order (e ∷ es) =
      let first : Occurrence E = record { at = at; order = order; event = e } in
      apart_both (occurrences (in_order sites at (order + 1) es)) (first ∷ []) (order_apart at (order + 1) es)
      (λ p none. absurd (contains_nil p none), tt)
      λ o p c d same_at same_order. elim (contains_cases first p [] d) [
        | inl same ↦
            let least : order + 1 ≤ o.order = (ordered at (order + 1) es o c).1 in
            let its : order ≡ p.order = ap (λ (x : Occurrence E). x.order) same in
            omega (arith, least, its, same_order)
        | inr none ↦ contains_nil p none
      ]

  of_order : (t : CodeSite) (es : List E) → Stand (occurrences (in_order sites (place_of t) 0 es)) (t ∷ [])
  of_order t es = record {
    inside = λ o among. (t, contains_here t [], (ordered (place_of t) 0 es o among).0);
    apart = order_apart (place_of t) 0 es;
  }

  of_site : (at : ℕ) → Stand (occurrences (site sites at)) (asked_at at ∷ [])
  of_site at = of_order (asked_at at) (or_other sites (sites.events at))

  of_branch : (brace : ℕ) (code : Code E) (ts : List CodeSite) → AreDistinct (asked_at brace ∷ ts)
      → Stand (occurrences code) ts
      → Stand (occurrences (branch sites brace code)) (asked_at brace ∷ ts)
  of_branch brace code ts h k = by (sites.events brace)
    where
      by : (es : List E) → Stand (occurrences (behind_events sites brace es code)) (asked_at brace ∷ ts)
      by [] = wider_stand (occurrences code) ts (asked_at brace ∷ ts) (λ t c. contains_there (asked_at brace) t ts c) k
      by (e ∷ es) =
          both (occurrences (in_order sites brace 0 (e ∷ es))) (occurrences code) (asked_at brace ∷ []) ts h
          (of_order (asked_at brace) (e ∷ es)) k

  of_declaration : (d : Declaration) → Stand (occurrences (declaration_code sites d)) (asked_declaration d)
  of_declaration (declaration_of keyword specs is_grouped span) =
      wider_stand _ (unasked_at span.start ∷ []) (unasked_at span.start ∷ asked_specs specs)
      (λ t k. Contains-append_left (unasked_at span.start ∷ []) (asked_specs specs) t k)
      (of_order (unasked_at span.start) (spec_events sites specs))

  -- a loop over a range, a switch, and clauses

  ranged : (ls : List (List ℕ)) (at : ℕ) (ss : Statements) → AreDistinct (asked_at at ∷ asked_statements ss)
      → Stand (occurrences (statements_code sites ss)) (asked_statements ss)
      → Stand (occurrences (loop ls (site sites at) true (statements_code sites ss) skip)) (asked_at at ∷ asked_statements ss)
  ranged ls at ss h k =
      subst (λ (l : List (Occurrence E)). Stand l (asked_at at ∷ asked_statements ss))
      (sym (looped ls (site sites at) true (statements_code sites ss) skip))
      (both (occurrences (site sites at)) (occurrences (statements_code sites ss)) (asked_at at ∷ []) (asked_statements ss)
      h (of_site at) k)

  falling_switch : (ls : List (List ℕ)) (ats : List ℕ) (at : ℕ) (init : OptionalStatement) (cs : CaseClauses)
      → AreDistinct (asked_at at ∷ (asked_optional init ++ asked_cases cs))
      → Stand (occurrences (optional_code sites init)) (asked_optional init)
      → Stand (occurrences (cases_code sites cs)) (asked_cases cs)
      → Stand (occurrences (then_code (optional_code sites init) (switch_code ls ats (site sites at) (or_past cs (cases_code sites cs)))))
      (asked_at at ∷ (asked_optional init ++ asked_cases cs))
  falling_switch ls ats at init cs h first k =
      subst (λ (l : List (Occurrence E)). Stand (l ++ occurrences (optional_code sites init)) (asked_at at ∷ (asked_optional init ++ asked_cases cs)))
      (sym (switched_occurrences ls ats (site sites at) (or_past cs (cases_code sites cs))))
      (headed (asked_at at) (occurrences (site sites at)) (occurrences (optional_code sites init))
      (occurrences (or_past cs (cases_code sites cs))) (asked_optional init) (asked_cases cs) h
      (of_site at) first (perhaps_past cs (cases_code sites cs) (asked_cases cs) k))

  switched : (ls : List (List ℕ)) (at : ℕ) (init : OptionalStatement) (cs : CaseClauses)
      → AreDistinct (asked_at at ∷ (asked_optional init ++ asked_cases cs))
      → Stand (occurrences (optional_code sites init)) (asked_optional init)
      → Stand (occurrences (cases_code sites cs)) (asked_cases cs)
      → Stand (occurrences (then_code (optional_code sites init) (then_code (site sites at) (breaks_end ls (or_past cs (cases_code sites cs))))))
      (asked_at at ∷ (asked_optional init ++ asked_cases cs))
  switched ls at init cs h first k =
      headed (asked_at at) (occurrences (site sites at)) (occurrences (optional_code sites init))
      (occurrences (breaks_end ls (or_past cs (cases_code sites cs)))) (asked_optional init) (asked_cases cs) h
      (of_site at) first
      (subst (λ (l : List (Occurrence E)). Stand l (asked_cases cs))
      (sym (labels_end_nothing breaking ls (or_past cs (cases_code sites cs))))
      (perhaps_past cs (cases_code sites cs) (asked_cases cs) k))

  clause : (at : ℕ) (ss : Statements) → AreDistinct (asked_at at ∷ asked_statements ss)
      → Stand (occurrences (statements_code sites ss)) (asked_statements ss)
      → Stand (occurrences (then_code (site sites at) (statements_code sites ss))) (asked_at at ∷ asked_statements ss)
  clause at ss h k =
      both (occurrences (site sites at)) (occurrences (statements_code sites ss)) (asked_at at ∷ []) (asked_statements ss)
      h (of_site at) k

  or_cases : (cs : CaseClauses) (first rest : Code E) (own : List CodeSite) → AreDistinct (own ++ asked_cases cs)
      → Stand (occurrences first) own
      → Stand (occurrences rest) (asked_cases cs)
      → Stand (occurrences (or_case first cs rest)) (own ++ asked_cases cs)
  or_cases no_case first rest own h k l =
      wider_stand (occurrences first) own (own ++ asked_cases no_case) (λ t c. Contains-append_left own (asked_cases no_case) t c) k
  or_cases (case_and es ss span cs) first rest own h k l =
      both (occurrences first) (occurrences rest) own (asked_cases (case_and es ss span cs)) h k l

  or_communications : (cs : CommunicationClauses) (first rest : Code E) (own : List CodeSite)
      → AreDistinct (own ++ asked_communications cs)
      → Stand (occurrences first) own
      → Stand (occurrences rest) (asked_communications cs)
      → Stand (occurrences (or_communication first cs rest)) (own ++ asked_communications cs)
  or_communications no_communication first rest own h k l =
      wider_stand (occurrences first) own (own ++ asked_communications no_communication)
      (λ t c. Contains-append_left own (asked_communications no_communication) t c) k
  or_communications (communication_and c ss span cs) first rest own h k l =
      both (occurrences first) (occurrences rest) own (asked_communications (communication_and c ss span cs)) h k l

  mutual
    unfolding statement_code form_code optional_code statements_code cases_code communications_code asked_statement
        asked_form asked_optional asked_statements asked_cases asked_communications

    of_statement : (ls : List (List ℕ)) (s : Statement) → AreDistinct (asked_statement s)
        → Stand (occurrences (statement_code sites ls s)) (asked_statement s)
    of_statement ls (statement_node form span) h = of_form ls span.start form h

    of_form : (ls : List (List ℕ)) (at : ℕ) (form : StatementForm) → AreDistinct (asked_form at form)
        → Stand (occurrences (form_code sites ls at form)) (asked_form at form)
    of_form ls at empty_statement h = none_stand []
    of_form ls at (declaration_statement d) h = of_declaration d
    of_form ls at (labeled_statement n s) h = of_statement (n.text ∷ ls) s h
    of_form ls at (expression_statement e) h = by (sites.panics at)
      where
        by : (b : Bool) → Stand (occurrences (if b then then_code (site sites at) stuck else site sites at)) (asked_at at ∷ [])
        by true = of_site at
        by false = of_site at
    of_form ls at (send_statement c v) h = of_site at
    of_form ls at (increment_statement e) h = of_site at
    of_form ls at (decrement_statement e) h = of_site at
    of_form ls at (assignment left right) h = of_site at
    of_form ls at (operator_assignment op l r) h = of_site at
    of_form ls at (define_statement ns right) h = of_site at
    of_form ls at (go_statement e) h = of_site at
    of_form ls at (defer_statement e) h = of_site at
    of_form ls at (return_statement es) h = of_order (unasked_at at) (or_other sites (sites.events at))
    of_form ls at (break_statement n) h = of_site at
    of_form ls at (continue_statement n) h = of_site at
    of_form ls at (goto_statement n) h = of_site at
    of_form ls at fallthrough_statement h = of_site at
    of_form ls at (block_statement ss braces) h = of_statements ss h
    of_form ls at (if_statement init has_semicolon c ss braces otherwise) h =
        let first = asked_optional init in
        let body = asked_at braces.start ∷ asked_statements ss in
        let last = asked_at (braces.end - 1) ∷ asked_optional otherwise in
        let inner = right_distinct first (body ++ last) h.1 in
        let own = left_distinct body last inner in
        let past = right_distinct body last inner in
        let one = branch sites braces.start (statements_code sites ss) in
        let other = branch sites (braces.end - 1) (optional_code sites otherwise) in
        headed (asked_at at) (occurrences (site sites at)) (occurrences (optional_code sites init))
        (occurrences other ++ occurrences one) first (body ++ last) h
        (of_site at) (of_optional init (left_distinct first (body ++ last) h.1))
        (both (occurrences one) (occurrences other) body last inner
        (of_branch braces.start (statements_code sites ss) (asked_statements ss) own (of_statements ss own.1))
        (of_branch (braces.end - 1) (optional_code sites otherwise) (asked_optional otherwise) past (of_optional otherwise past.1)))
    of_form ls at (for_statement init c post has_semicolons ss braces) h =
        let first = asked_optional init in
        let last = asked_optional post in
        let body = asked_statements ss in
        let same = append_assoc first last body in
        let distinct = subst (λ (l : List CodeSite). AreDistinct (asked_at at ∷ l)) same h in
        let inner = right_distinct first (last ++ body) distinct.1 in
        let code = loop ls (site sites at) (is_present c) (statements_code sites ss) (optional_code sites post) in
        subst (λ (l : List CodeSite). Stand (occurrences code ++ occurrences (optional_code sites init)) (asked_at at ∷ l)) (sym same)
        (subst (λ (l : List (Occurrence E)). Stand (l ++ occurrences (optional_code sites init)) (asked_at at ∷ (first ++ (last ++ body))))
        (sym (looped ls (site sites at) (is_present c) (statements_code sites ss) (optional_code sites post)))
        (headed (asked_at at) (occurrences (site sites at)) (occurrences (optional_code sites init))
        (occurrences (optional_code sites post) ++ occurrences (statements_code sites ss)) first (last ++ body) distinct
        (of_site at) (of_optional init (left_distinct first (last ++ body) distinct.1))
        (joined (occurrences (optional_code sites post)) (occurrences (statements_code sites ss)) last body
        (are_off last body inner) (of_optional post (left_distinct last body inner))
        (of_statements ss (right_distinct last body inner)))))
    of_form ls at (range_assignment left e ss braces) h = ranged ls at ss h (of_statements ss h.1)
    of_form ls at (range_definition ns e ss braces) h = ranged ls at ss h (of_statements ss h.1)
    of_form ls at (switch_statement init has_semicolon tag cs) h =
        falling_switch ls (clauses_fall cs) at init cs h (of_optional init (left_distinct (asked_optional init) (asked_cases cs) h.1))
        (of_cases cs (right_distinct (asked_optional init) (asked_cases cs) h.1))
    of_form ls at (type_switch_statement init has_semicolon n e cs) h =
        switched ls at init cs h (of_optional init (left_distinct (asked_optional init) (asked_cases cs) h.1))
        (of_cases cs (right_distinct (asked_optional init) (asked_cases cs) h.1))
    of_form ls at (select_statement cs) h =
        both (occurrences (site sites at)) (occurrences (breaks_end ls (communications_code sites cs)))
        (asked_at at ∷ []) (asked_communications cs) h (of_site at)
        (subst (λ (l : List (Occurrence E)). Stand l (asked_communications cs))
        (sym (labels_end_nothing breaking ls (communications_code sites cs))) (of_communications cs h.1))

    of_optional : (s : OptionalStatement) → AreDistinct (asked_optional s)
        → Stand (occurrences (optional_code sites s)) (asked_optional s)
    of_optional missing_statement h = none_stand []
    of_optional (present_statement s) h = of_statement [] s h

    of_statements : (ss : Statements) → AreDistinct (asked_statements ss)
        → Stand (occurrences (statements_code sites ss)) (asked_statements ss)
    of_statements no_statement h = none_stand []
    of_statements (statement_and s ss) h =
        both (occurrences (statement_code sites [] s)) (occurrences (statements_code sites ss)) (asked_statement s)
        (asked_statements ss) h (of_statement [] s (left_distinct (asked_statement s) (asked_statements ss) h))
        (of_statements ss (right_distinct (asked_statement s) (asked_statements ss) h))

    of_cases : (cs : CaseClauses) → AreDistinct (asked_cases cs)
        → Stand (occurrences (cases_code sites cs)) (asked_cases cs)
    of_cases no_case h = none_stand []
    of_cases (case_and es ss span cs) h =
        let own = asked_at span.start ∷ asked_statements ss in
        or_cases cs (then_code (site sites span.start) (statements_code sites ss)) (cases_code sites cs) own h
        (clause span.start ss (left_distinct own (asked_cases cs) h)
        (of_statements ss (left_distinct own (asked_cases cs) h).1)) (of_cases cs (right_distinct own (asked_cases cs) h))

    of_communications : (cs : CommunicationClauses) → AreDistinct (asked_communications cs)
        → Stand (occurrences (communications_code sites cs)) (asked_communications cs)
    of_communications no_communication h = none_stand []
    of_communications (communication_and c ss span cs) h =
        let own = asked_at span.start ∷ asked_statements ss in
        or_communications cs (then_code (site sites span.start) (statements_code sites ss)) (communications_code sites cs) own h
        (clause span.start ss (left_distinct own (asked_communications cs) h)
        (of_statements ss (left_distinct own (asked_communications cs) h).1))
        (of_communications cs (right_distinct own (asked_communications cs) h))

  -- The parts of statements, in any order, are occurrences of the statements, but for those at the braces of an `if`.

  parts_both : (ps qs : List Part)
      → occurrences (one_of sites (ps ++ qs)) ≡ occurrences (one_of sites qs) ++ occurrences (one_of sites ps)
  parts_both [] qs = sym (append-nil (occurrences (one_of sites qs)))
  parts_both (p ∷ ps) qs =
      ap (λ (os : List (Occurrence E)). os ++ occurrences (part_code sites p)) (parts_both ps qs)
      ∙ append_assoc (occurrences (one_of sites qs)) (occurrences (one_of sites ps)) (occurrences (part_code sites p))

  -- of two parts of a statement, each of which is so
  same_both : (ps qs : List Part) (a b : Code E)
      → Fewer (occurrences (one_of sites ps)) (occurrences a)
      → Fewer (occurrences (one_of sites qs)) (occurrences b)
      → Fewer (occurrences (one_of sites (ps ++ qs))) (occurrences (then_code a b))
  same_both ps qs a b h k =
      equal_then (parts_both ps qs)
      (fewer_both (occurrences (one_of sites qs)) (occurrences b) (occurrences (one_of sites ps)) (occurrences a) k h)

  -- with a header before it
  behind_header : (at : ℕ) (xs ys : List (Occurrence E)) → Fewer xs ys
      → Fewer (xs ++ occurrences (site sites at)) (ys ++ occurrences (site sites at))
  behind_header at xs ys h =
      fewer_both xs ys (occurrences (site sites at)) (occurrences (site sites at)) h (all_of (occurrences (site sites at)))

  in_branch : (brace : ℕ) (xs : List (Occurrence E)) (code : Code E) → Fewer xs (occurrences code)
      → Fewer xs (occurrences (branch sites brace code))
  in_branch brace xs code h = by (sites.events brace)
    where
      by : (es : List E) → Fewer xs (occurrences (behind_events sites brace es code))
      by [] = h
      by (e ∷ es) = among_more xs (occurrences code) (occurrences (in_order sites brace 0 (e ∷ es))) h

  no_clauses : (cs : CaseClauses) → cs ≡ no_case → occurrences (cases_code sites cs) ≡ []
  unfolding cases_code
  no_clauses no_case e = refl
  no_clauses (case_and es ss span cs) e = let bad : case_and es ss span cs ≡ no_case = e in cc

  no_communications : (cs : CommunicationClauses)
      → cs ≡ no_communication → occurrences (communications_code sites cs) ≡ []
  unfolding communications_code
  no_communications no_communication e = refl
  no_communications (communication_and c ss span cs) e =
      let bad : communication_and c ss span cs ≡ no_communication = e in cc

  mutual
    unfolding statement_code form_code optional_code statements_code cases_code communications_code parts_of
        statement_parts form_parts optional_parts cases_parts communications_parts

    same_statement : (ls : List (List ℕ)) (s : Statement)
        → Fewer (occurrences (one_of sites (statement_parts s))) (occurrences (statement_code sites ls s))
    same_statement ls (statement_node form span) = same_form ls span.start form

    same_form : (ls : List (List ℕ)) (at : ℕ) (form : StatementForm)
        → Fewer (occurrences (one_of sites (form_parts at form))) (occurrences (form_code sites ls at form))
    same_form ls at empty_statement = all_of _
    same_form ls at (declaration_statement d) = all_of _
    same_form ls at (labeled_statement n s) = same_statement (n.text ∷ ls) s
    same_form ls at (expression_statement e) = by (sites.panics at)
      where
        by : (b : Bool)
            → Fewer (occurrences (site sites at)) (occurrences (if b then then_code (site sites at) stuck else site sites at))
        by true = all_of (occurrences (site sites at))
        by false = all_of (occurrences (site sites at))
    same_form ls at (send_statement c v) = all_of _
    same_form ls at (increment_statement e) = all_of _
    same_form ls at (decrement_statement e) = all_of _
    same_form ls at (assignment left right) = all_of _
    same_form ls at (operator_assignment op l r) = all_of _
    same_form ls at (define_statement ns right) = all_of _
    same_form ls at (go_statement e) = all_of _
    same_form ls at (defer_statement e) = all_of _
    same_form ls at (return_statement es) = all_of _
    same_form ls at (break_statement n) = all_of _
    same_form ls at (continue_statement n) = all_of _
    same_form ls at (goto_statement n) = all_of _
    same_form ls at fallthrough_statement = all_of _
    same_form ls at (block_statement ss braces) = same_statements ss
    same_form ls at (if_statement init has_semicolon c ss braces otherwise) =
        same_both (optional_parts init) (plain_part at ∷ (parts_of ss ++ optional_parts otherwise)) (optional_code sites init)
        (then_code (site sites at) (either (branch sites braces.start (statements_code sites ss))
        (branch sites (braces.end - 1) (optional_code sites otherwise)))) (same_optional init)
        (behind_header at _ _
        (same_both (parts_of ss) (optional_parts otherwise) (branch sites braces.start (statements_code sites ss))
        (branch sites (braces.end - 1) (optional_code sites otherwise))
        (in_branch braces.start _ (statements_code sites ss) (same_statements ss))
        (in_branch (braces.end - 1) _ (optional_code sites otherwise) (same_optional otherwise))))
    same_form ls at (for_statement init c post has_semicolons ss braces) =
        same_both (optional_parts init) (plain_part at ∷ (parts_of ss ++ optional_parts post)) (optional_code sites init)
        (loop ls (site sites at) (is_present c) (statements_code sites ss) (optional_code sites post)) (same_optional init)
        (then_equal (behind_header at _ _
        (same_both (parts_of ss) (optional_parts post) (statements_code sites ss) (optional_code sites post)
        (same_statements ss) (same_optional post)))
        (sym (looped ls (site sites at) (is_present c) (statements_code sites ss) (optional_code sites post))))
    same_form ls at (range_assignment left e ss braces) =
        then_equal (behind_header at _ _ (same_statements ss))
        (sym (looped ls (site sites at) true (statements_code sites ss) skip))
    same_form ls at (range_definition ns e ss braces) =
        then_equal (behind_header at _ _ (same_statements ss))
        (sym (looped ls (site sites at) true (statements_code sites ss) skip))
    same_form ls at (switch_statement init has_semicolon tag cs) =
        same_both (optional_parts init) (plain_part at ∷ cases_parts cs) (optional_code sites init)
        (switch_code ls (clauses_fall cs) (site sites at) (or_past cs (cases_code sites cs))) (same_optional init)
        (then_equal (behind_header at _ _
        (then_equal (same_cases cs) (sym (past_occurrences cs (cases_code sites cs) (no_clauses cs)))))
        (sym (switched_occurrences ls (clauses_fall cs) (site sites at) (or_past cs (cases_code sites cs)))))
    same_form ls at (type_switch_statement init has_semicolon n e cs) =
        same_both (optional_parts init) (plain_part at ∷ cases_parts cs) (optional_code sites init)
        (then_code (site sites at) (breaks_end ls (or_past cs (cases_code sites cs)))) (same_optional init)
        (behind_header at _ _
        (then_equal (same_cases cs) (sym (past_occurrences cs (cases_code sites cs) (no_clauses cs))
        ∙ sym (labels_end_nothing breaking ls (or_past cs (cases_code sites cs))))))
    same_form ls at (select_statement cs) =
        behind_header at _ _
        (then_equal (same_communications cs) (sym (labels_end_nothing breaking ls (communications_code sites cs))))

    same_optional : (s : OptionalStatement)
        → Fewer (occurrences (one_of sites (optional_parts s))) (occurrences (optional_code sites s))
    same_optional missing_statement = all_of _
    same_optional (present_statement s) = same_statement [] s

    same_statements : (ss : Statements)
        → Fewer (occurrences (one_of sites (parts_of ss))) (occurrences (statements_code sites ss))
    same_statements no_statement = all_of _
    same_statements (statement_and s ss) =
        same_both (statement_parts s) (parts_of ss) (statement_code sites [] s) (statements_code sites ss)
        (same_statement [] s) (same_statements ss)

    same_cases : (cs : CaseClauses)
        → Fewer (occurrences (one_of sites (cases_parts cs))) (occurrences (cases_code sites cs))
    same_cases no_case = all_of _
    same_cases (case_and es ss span cs) =
        then_equal (behind_header span.start _ _
        (same_both (parts_of ss) (cases_parts cs) (statements_code sites ss) (cases_code sites cs) (same_statements ss)
        (same_cases cs)))
        (append_assoc (occurrences (cases_code sites cs)) (occurrences (statements_code sites ss)) (occurrences (site sites span.start))
        ∙ sym (clause_occurrences cs (then_code (site sites span.start) (statements_code sites ss)) (cases_code sites cs)
        (no_clauses cs)))

    same_communications : (cs : CommunicationClauses)
        → Fewer (occurrences (one_of sites (communications_parts cs))) (occurrences (communications_code sites cs))
    same_communications no_communication = all_of _
    same_communications (communication_and c ss span cs) =
        then_equal (behind_header span.start _ _
        (same_both (parts_of ss) (communications_parts cs) (statements_code sites ss) (communications_code sites cs)
        (same_statements ss) (same_communications cs)))
        (append_assoc (occurrences (communications_code sites cs)) (occurrences (statements_code sites ss)) (occurrences (site sites span.start))
        ∙ sym (communication_occurrences cs (then_code (site sites span.start) (statements_code sites ss))
        (communications_code sites cs) (no_communications cs)))

  of_block : (ss : Statements) → Fewer (occurrences (block_code sites ss)) (occurrences (statements_code sites ss))
  of_block ss =
      by (jumps_in ss)
      (equal_then (looped [] skip true (one_of sites (parts_of ss)) skip ∙ append-nil (occurrences (one_of sites (parts_of ss))))
      (same_statements ss))
    where
      by : (js : List ℕ) → Fewer (occurrences (jumping_code sites (parts_of ss))) (occurrences (statements_code sites ss))
          → Fewer (occurrences (jumping_or js (jumping_code sites (parts_of ss)) (statements_code sites ss)))
          (occurrences (statements_code sites ss))
      by [] same = all_of (occurrences (statements_code sites ss))
      by (j ∷ js) same = same

  of_body : (b : BodyPlace) → AreDistinct (asked_body b) → Stand (occurrences (body_code sites (block_of b))) (asked_body b)
  of_body b h =
      let body = asked_statements b.statements in
      let last = unasked_at (b.braces.end - 1) ∷ [] in
      both (entry sites (block_of b) ∷ []) ((last_return sites (block_of b) ∷ []) ++ occurrences (block_code sites b.statements))
      (unasked_at b.braces.start ∷ []) (body ++ last) h (alone (entry sites (block_of b)) (unasked_at b.braces.start) refl)
      (both (occurrences (block_code sites b.statements)) (last_return sites (block_of b) ∷ []) body last h.1
      (fewer_stand (occurrences (block_code sites b.statements)) (occurrences (statements_code sites b.statements)) body
      (of_block b.statements) (of_statements b.statements (left_distinct body last h.1)))
      (alone (last_return sites (block_of b)) (unasked_at (b.braces.end - 1)) refl))

-- Numbers

pub in_list : {X : Type 0} (xs : List X) (i : ℕ) (x : X) → slice_get xs i ≡ Some x → Contains xs x
in_list xs i x e = (i, slice_get_within xs i x e, get_or_from_slice_get xs i x x e)

one_number : {E : Type 0} (os : List (Occurrence E)) → AreApart os → (i j : ℕ) (o p : Occurrence E)
    → slice_get os i ≡ Some o
    → slice_get os j ≡ Some p
    → o.at ≡ p.at
    → o.order ≡ p.order
    → i ≡ j
one_number [] h i j o p is that at order = absurd (contains_nil o (in_list [] i o is))
one_number (x ∷ os) h zero zero o p is that at order = refl
one_number {E} (x ∷ os) h zero (suc j) o p is that at order =
    let same : x ≡ o = cc in
    absurd (h.0 p (in_list os j p that) (ap (λ (y : Occurrence E). y.at) same ∙ at) (ap (λ (y : Occurrence E). y.order) same ∙ order))
one_number {E} (x ∷ os) h (suc i) zero o p is that at order =
    let same : x ≡ p = cc in
    absurd (h.0 o (in_list os i o is) (ap (λ (y : Occurrence E). y.at) same ∙ sym at) (ap (λ (y : Occurrence E). y.order) same ∙ sym order))
one_number (x ∷ os) h (suc i) (suc j) o p is that at order = ap suc (one_number os h.1 i j o p is that at order)

pub occurrences_have_places : (E : Type 0) → OccurrencesHavePlaces E
occurrences_have_places E text tree known b sites is_tree among =
    let marks = marks_by known.edition (some_keep known.fields) (file_marks tree) in
    let opened = among_all known.edition (some_keep known.fields) (file_marks tree) (opens b)
    (opens_one marks b (placed_only (opened_in (placed [] marks)) b among)) in
    let distinct = ((are_sited known.edition text tree is_tree).sited.bodies b opened).0 in
    record { one_each = one_number (occurrences (body_code sites (block_of b))) (of_body sites b distinct).apart }

pub occurrences_lie_in_texts : (E : Type 0) → OccurrencesLieInTexts E
occurrences_lie_in_texts E text tree known b sites o is_tree among there =
    let marks = marks_by known.edition (some_keep known.fields) (file_marks tree) in
    let opened = among_all known.edition (some_keep known.fields) (file_marks tree) (opens b)
    (opens_one marks b (placed_only (opened_in (placed [] marks)) b among)) in
    let file = are_sited known.edition text tree is_tree in
    let of = file.sited.bodies b opened in
    let at = (of_body sites b of.0).inside o there in
    let before = of.1 at.0 at.1 in
    let same = at.2 in
    let low = file.in_text in
    omega (arith, before, same, low)

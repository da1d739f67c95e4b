-- Each write is marked as one, and each such mention of a tracked cancel variable binds it or is a fault.
use Rattle.std.proofs.Common.{◌≡◌, ℕ, ◌+◌, Bool, true, false, inl, inr, List, [], ◌∷◌, ◌++◌, Option, Some, None, Contains, refl, sym, ap, ◌∙◌, subst}
use Rattle.std.specs.Prelude.{◌&&◌, not, if◌then◌else◌, is_some, map}
use Rattle.std.proofs.lemmas.Bool.{true≢false, false≢true, and_from, eq-eqb}
use Rattle.std.proofs.lemmas.List.Elements.{Contains-append_left, Contains-append_right, Contains-append_cases}
use Rattle.std.proofs.lemmas.Option.{same_Some}
use Rattle.tree.specs.declared.edition.Edition.{Edition}
use Rattle.tree.specs.declared.edition.Edition.TheVariants.{First, Second}
use Rattle.tree.specs.declared.operator.DeclKeyword.{DeclKeyword}
use Rattle.tree.specs.declared.operator.UnaryOperator.{UnaryOperator}
use Rattle.tree.specs.declared.operator.UnaryOperator.TheVariants.{Address}
use Rattle.tree.specs.declared.span.Span.{Span}
use Rattle.tree.specs.Syntax.{Identifier, Expression, expression_node, ExpressionForm, name_expression, composite_literal, unary_expression, Expressions, no_expression, expression_and, StatementForm, empty_statement, declaration_statement, labeled_statement, expression_statement, send_statement, increment_statement, decrement_statement, assignment, operator_assignment, define_statement, go_statement, defer_statement, return_statement, break_statement, continue_statement, goto_statement, fallthrough_statement, block_statement, if_statement, for_statement, range_assignment, range_definition, switch_statement, type_switch_statement, select_statement, CaseClauses, no_case, case_and, declaration_of, Specs, no_spec, value_and, type_and}
use Rattle.meaning.specs.Scopes.{is_blank, parameters_named}
use Rattle.meaning.specs.FunctionFacts.{CancelType, cancel, group}
use Rattle.meaning.specs.Mentions.{Named, bare, as_bare, as_new_literal, bare_within, defines, assigns, declares, Standing, ordinary, Row, CallPlace, nowhere, as_statement, only_value, return_item, deferred, Call, Role, elsewhere, as_key, exposed, found_nil, found_error, called, called_in_brackets, argument, returned, left, names_type, new_literal, parameter_pointer, Mention, BodyPlace, Mark, mentions, Spot, part_of, value_spot, declaring, number_of, named_or, exposed_or, argument_or, argument_at, new_literal_or, left_names, declared_elsewhere, row_of, expression_marks, form_marks, expressions_marks, lefts_marks, ranged_marks, names_type_marks, parameters_marks, statement_form_marks, statements_marks, optional_statement_marks, cases_marks, declaration_marks, specs_marks, pointed_to, under_go, field_written, rights_given, is_one}
use Rattle.meaning.specs.Tracked.{Known, variable_of, declared_by, LocalRole, parameter, receiver, variadic, result, in_block, Local, giving_of, kind_of_local, some_keep}
use Rattle.meaning.specs.Uses.{Seen, found, kind_of, tracked_kind, may_be_tracked, cancel_type_of, cancel_use_by, UseFault, fault_at, cancel_used_otherwise, bound_again, Binding, obtained, cleared, made, binding_at, binding_event, binding_outcome, first_faults, type_faults, again_faults, is_own, is_of_local, is_in_literal, mentions_inside, row_outcome, role_outcome, local_outcome, variable_outcome, variable_at, mention_outcome, use_outcome, error_events, cancel_passed, cancel_use, either_use, Outcome, Event, giving_faults, errgroup_faults, VariableAt}
use Rattle.meaning.specs.Kept.{object_events}
use Rattle.meaning.specs.BodyEvents.{seen_file, sent_events}
use Rattle.meaning.proofs.Membership.{contains_nil, contains_here, contains_there, contains_cases}
use Rattle.meaning_packages.specs.PathFaults.{BindsCancel, obtains, clears}
use Rattle.meaning_runs.specs.Writes.{one_name, names_on_left, name_of, spec_names, guard_names, written_by, handed_out, may_write, IsMarked, WritesAreMarked, IsSeenWrite, binds, is_fault, declares_another, WritesAreSeen}
use Rattle.meaning_runs.proofs.LeftSides.{Fits, left_sides_fit}
use Rattle.meaning_runs.proofs.OwnVariables.{find_is}
use Rattle.meaning_runs.proofs.TrackedBindings.{left_is_of_kind, mention_is_of_kind, named_is_no_outer}
use Rattle.meaning_runs.proofs.Captured.{any_true}

-- Marks

in_left : {xs : List Mark} (ys : List Mark) {n : Named} → IsMarked xs n → IsMarked (xs ++ ys) n
in_left {xs} ys h = record {
  mention = h.mention;
  is_among = Contains-append_left xs ys (mentions h.mention) h.is_among;
  is_named = h.is_named;
  writes = h.writes;
}

in_right : (xs : List Mark) {ys : List Mark} {n : Named} → IsMarked ys n → IsMarked (xs ++ ys) n
in_right xs {ys} h = record {
  mention = h.mention;
  is_among = Contains-append_right xs ys (mentions h.mention) h.is_among;
  is_named = h.is_named;
  writes = h.writes;
}

there : (m : Mark) {ms : List Mark} {n : Named} → IsMarked ms n → IsMarked (m ∷ ms) n
there m {ms} h = record {
  mention = h.mention;
  is_among = contains_there m (mentions h.mention) ms h.is_among;
  is_named = h.is_named;
  writes = h.writes;
}

here : (m : Mention) (ms : List Mark) (n : Named) → m.named ≡ n → may_write m.role ≡ true → IsMarked (mentions m ∷ ms) n
here m ms n is writes = record { mention = m; is_among = contains_here (mentions m) ms; is_named = is; writes = writes }

-- a name in place of other marks
named_so : (o : Option Named) (site : ℕ) (role : Role) (ms : List Mark) (n : Named)
    → may_write role ≡ true
    → Contains (one_name o) n
    → IsMarked (named_or o site role ms) n
named_so None site role ms n w h = absurd (contains_nil n h)
named_so (Some x) site role ms n w h = elim (contains_cases x n [] h) [
  | inl same ↦ here record { named = x; role = role; site = site; declares = None } [] n same w
  | inr none ↦ absurd (contains_nil n none)
]

names : (row : Row) (site k : ℕ) (ns : List Identifier) (n : Named) → Contains (map name_of ns) n
    → IsMarked (left_names row site k ns) n
names row site k [] n h = absurd (contains_nil n h)
names row site k (x ∷ ns) n h = elim (contains_cases (name_of x) n (map name_of ns) h) [
  | inl same ↦ here record { named = name_of x; role = left k row; site = site; declares = number_of x } _ n same refl
  | inr rest ↦ there (declaring site (left k row) x (number_of x)) (names row site (k + 1) ns n rest)
]

declared : (site : ℕ) (ns : List Identifier) (n : Named) → Contains (map name_of ns) n → IsMarked (declared_elsewhere site ns) n
declared site [] n h = absurd (contains_nil n h)
declared site (x ∷ ns) n h = elim (contains_cases (name_of x) n (map name_of ns) h) [
  | inl same ↦ here record { named = name_of x; role = exposed; site = site; declares = number_of x } _ n same refl
  | inr rest ↦ there (declaring site exposed x (number_of x)) (declared site ns n rest)
]

left_so : (row : Row) (site k : ℕ) (e : Expression) (ms : List Mark) (n : Named) → Contains (one_name (bare_within e)) n
    → IsMarked (named_or (as_bare e) site (left k row) (exposed_or site e ms)) n
left_so row site k (expression_node (name_expression text) span) ms n h =
    named_so (Some (bare text span.start)) site (left k row) (named_or (Some (bare text span.start)) site exposed ms) n refl h
left_so row site k e ms n h = named_so (bare_within e) site exposed ms n refl h

lefts : (row : Row) (site k : ℕ) (es : Expressions) (n : Named) → Contains (names_on_left es) n
    → IsMarked (lefts_marks row site k es) n
unfolding lefts_marks
lefts row site k no_expression n h = absurd (contains_nil n h)
lefts row site k (expression_and e es) n h = elim (Contains-append_cases (one_name (bare_within e)) (names_on_left es) n h) [
  | inl first ↦ in_left (field_written site (Some record { left_side = k; row = row }) e ++ lefts_marks row site (k + 1) es)
      (left_so row site k e (expression_marks (part_of site) e) n first)
  | inr rest ↦ in_right (named_or (as_bare e) site (left k row) (exposed_or site e (expression_marks (part_of site) e)))
      (in_right (field_written site (Some record { left_side = k; row = row }) e) (lefts row site (k + 1) es n rest))
]

ranged : (site : ℕ) (es : Expressions) (n : Named) → Contains (names_on_left es) n → IsMarked (ranged_marks site es) n
unfolding ranged_marks
ranged site no_expression n h = absurd (contains_nil n h)
ranged site (expression_and e es) n h = elim (Contains-append_cases (one_name (bare_within e)) (names_on_left es) n h) [
  | inl first ↦ in_left (field_written site None e ++ ranged_marks site es) (named_so (bare_within e) site exposed (expression_marks (part_of site) e) n refl first)
  | inr rest ↦ in_right (exposed_or site e (expression_marks (part_of site) e))
      (in_right (field_written site None e) (ranged site es n rest))
]

of_specs : (keyword : DeclKeyword) (at : ℕ) (specs : Specs) (n : Named) → Contains (spec_names specs) n
    → IsMarked (specs_marks keyword at specs) n
unfolding specs_marks
of_specs keyword at no_spec n h = absurd (contains_nil n h)
of_specs keyword at (value_and ns t es span specs) n h =
    let row = row_of ordinary at (declares keyword ns t) es in
    in_right (names_type_marks row span.start t) (in_right (expressions_marks (value_spot row span.start) es)
    (elim (Contains-append_cases (map name_of ns) (spec_names specs) n h) [
      | inl own ↦ in_left (specs_marks keyword at specs) (names row span.start 0 ns n own)
      | inr rest ↦ in_right (left_names row span.start 0 ns) (of_specs keyword at specs n rest)
    ]))
of_specs keyword at (type_and x ps is_alias t span specs) n h =
    there (declaring span.start exposed x (number_of x))
    (in_right (declared_elsewhere span.start (parameters_named ps)) (in_right (parameters_marks false span.start ps)
    (in_right (expression_marks (part_of span.start) t) (of_specs keyword at specs n h))))

of_guard : (at : ℕ) (guard : Option Identifier) (cs : CaseClauses) (n : Named) → Contains (guard_names guard cs) n
    → IsMarked (cases_marks at guard cs) n
unfolding cases_marks
of_guard at None cs n h = absurd (contains_nil n h)
of_guard at (Some x) no_case n h = absurd (contains_nil n h)
of_guard at (Some x) (case_and es ss span cs) n h = in_left _ (by (is_blank x.text) h)
  where
    by : (b : Bool) → Contains (if b then [] else name_of x ∷ []) n
        → IsMarked (if b then [] else declaring at exposed x (Some span.start) ∷ []) n
    by true k = absurd (contains_nil n k)
    by false k = elim (contains_cases (name_of x) n [] k) [
      | inl same ↦ here record { named = name_of x; role = exposed; site = at; declares = Some span.start } [] n same refl
      | inr none ↦ absurd (contains_nil n none)
    ]

of_statement : (standing : Standing) (at : ℕ) (form : StatementForm) (n : Named) → Contains (written_by form) n
    → IsMarked (statement_form_marks standing at form) n
unfolding statement_form_marks declaration_marks
of_statement standing at empty_statement n h = absurd (contains_nil n h)
of_statement standing at (declaration_statement (declaration_of keyword specs is_grouped span)) n h =
    of_specs keyword span.start specs n h
of_statement standing at (labeled_statement name s) n h = absurd (contains_nil n h)
of_statement standing at (expression_statement e) n h = absurd (contains_nil n h)
of_statement standing at (send_statement c v) n h = absurd (contains_nil n h)
of_statement standing at (increment_statement e) n h =
    in_left (field_written at None e) (named_so (bare_within e) at exposed (expression_marks (part_of at) e) n refl h)
of_statement standing at (decrement_statement e) n h =
    in_left (field_written at None e) (named_so (bare_within e) at exposed (expression_marks (part_of at) e) n refl h)
of_statement standing at (assignment ls rs) n h =
    let row = row_of standing at (assigns ls) rs in
    in_right (expressions_marks (value_spot row at) rs) (in_right (rights_given at (is_one rs) ls rs) (lefts row at 0 ls n h))
of_statement standing at (operator_assignment op l r) n h =
    in_left (expression_marks (part_of at) r ++ field_written at None l) (named_so (bare_within l) at exposed (expression_marks (part_of at) l) n refl h)
of_statement standing at (define_statement ns rs) n h =
    let row = row_of standing at (defines ns) rs in
    in_right (expressions_marks (value_spot row at) rs) (names row at 0 ns n h)
of_statement standing at (go_statement e) n h = absurd (contains_nil n h)
of_statement standing at (defer_statement e) n h = absurd (contains_nil n h)
of_statement standing at (return_statement es) n h = absurd (contains_nil n h)
of_statement standing at (break_statement name) n h = absurd (contains_nil n h)
of_statement standing at (continue_statement name) n h = absurd (contains_nil n h)
of_statement standing at (goto_statement name) n h = absurd (contains_nil n h)
of_statement standing at fallthrough_statement n h = absurd (contains_nil n h)
of_statement standing at (block_statement ss braces) n h = absurd (contains_nil n h)
of_statement standing at (if_statement init has_semicolon c ss braces other) n h = absurd (contains_nil n h)
of_statement standing at (for_statement init c post has_semicolons ss braces) n h = absurd (contains_nil n h)
of_statement standing at (range_assignment ls e ss braces) n h =
    in_left (expression_marks (part_of at) e ++ statements_marks ss) (ranged at ls n h)
of_statement standing at (range_definition ns e ss braces) n h =
    in_right (expression_marks (part_of at) e) (in_left (statements_marks ss) (declared at ns n h))
of_statement standing at (switch_statement init has_semicolon tag cs) n h = absurd (contains_nil n h)
of_statement standing at (type_switch_statement init has_semicolon guard e cs) n h =
    in_right (optional_statement_marks ordinary init) (in_right (expression_marks (part_of at) e) (of_guard at guard cs n h))
of_statement standing at (select_statement cs) n h = absurd (contains_nil n h)

-- Expressions

no_new_literal : (place : CallPlace) (site : ℕ) {ms : List Mark} {n : Named} → IsMarked ms n
    → IsMarked (new_literal_or place site None ms) n
no_new_literal nowhere site h = h
no_new_literal as_statement site h = h
no_new_literal (only_value row) site h = h
no_new_literal (return_item k) site h = h
no_new_literal deferred site h = h
no_new_literal under_go site h = h

address : (spot : Spot) (e : Expression) (n : Named) → Contains (one_name (bare_within e)) n
    → IsMarked (new_literal_or spot.place spot.site (as_new_literal Address e)
    (named_or (bare_within e) spot.site pointed_to (expression_marks (part_of spot.site) e))) n
address spot (expression_node (composite_literal t es) span) n h = absurd (contains_nil n h)
address spot e n h =
    no_new_literal spot.place spot.site
    (named_so (bare_within e) spot.site pointed_to (expression_marks (part_of spot.site) e) n refl h)

of_unary : (spot : Spot) (span : Span) (op : UnaryOperator) (e : Expression) (n : Named)
    → Contains (handed_out (unary_expression op e)) n
    → IsMarked (form_marks spot span (unary_expression op e)) n
unfolding form_marks
of_unary spot span Address e n h = address spot e n h
of_unary spot span op e n h = absurd (contains_nil n h)

of_expression : (spot : Spot) (span : Span) (form : ExpressionForm) (n : Named) → Contains (handed_out form) n
    → IsMarked (form_marks spot span form) n
of_expression spot span (unary_expression op e) n h = of_unary spot span op e n h
of_expression spot span form n h = absurd (contains_nil n h)

address_of : (c : Call) (site k : ℕ) (e : Expression) (ms : List Mark) (n : Named) → Contains (one_name (bare_within e)) n
    → IsMarked ms n
    → IsMarked (named_or (as_bare e) site (argument k true c) ms) n
address_of c site k (expression_node (name_expression text) span) ms n h own =
    named_so (Some (bare text span.start)) site (argument k true c) ms n refl h
address_of c site k e ms n h own = own

argument_so : (c : Call) (site k : ℕ) (span : Span) (form : ExpressionForm) (ms : List Mark) (n : Named)
    → Contains (handed_out form) n
    → IsMarked ms n
    → IsMarked (argument_or c site k (expression_node form span) ms) n
argument_so c site k span (unary_expression Address e) ms n h own = address_of c site k e ms n h own
argument_so c site k span (unary_expression op e) ms n h own = absurd (contains_nil n h)
argument_so c site k span form ms n h own = absurd (contains_nil n h)

of_argument : (c : Option Call) (site k : ℕ) (is_last : Bool) (spot : Spot) (span : Span) (form : ExpressionForm) (n : Named)
    → Contains (handed_out form) n
    → IsMarked (argument_at c site k is_last (expression_node form span) (expression_marks spot (expression_node form span))) n
unfolding expression_marks
of_argument None site k is_last spot span form n h = of_expression spot span form n h
of_argument (Some c) site k is_last spot span form n h = by (is_last && c.has_ellipsis)
  where
    by : (b : Bool)
        → IsMarked (if b then form_marks spot span form else argument_or c site k (expression_node form span) (form_marks spot span form)) n
    by true = of_expression spot span form n h
    by false = argument_so c site k span form (form_marks spot span form) n h (of_expression spot span form n h)

pub writes_are_marked : WritesAreMarked
writes_are_marked = record { of_statement = of_statement; of_expression = of_expression; of_argument = of_argument }

-- What becomes of them

-- which mentions that write are allowed: none
no_passing : (known : Known) (t : CancelType) (v : VariableAt) (selected : Option (List ℕ)) (k : ℕ) (c : Call)
    → cancel_passed known t v selected k true c ≡ None
no_passing known t v None k c = refl
no_passing known t v (Some n) k c = refl

no_argument : (known : Known) (t : CancelType) (l : Local) (bodies : List BodyPlace) (m : Mention) (k : ℕ) (c : Call)
    → cancel_use known t l bodies m (argument k true c) ≡ None
no_argument known t l bodies m k c = by (is_own l bodies) (no_passing known t (variable_at l m) m.named.selected k c)
  where
    by : (own : Bool) → cancel_passed known t (variable_at l m) m.named.selected k true c ≡ None
        → (if own then cancel_passed known t (variable_at l m) m.named.selected k true c else None) ≡ None
    by true none = none
    by false none = refl

no_use : (edition : Edition) (known : Known) (t : CancelType) (l : Local) (bodies : List BodyPlace) (m : Mention) (r : Role)
    → may_write r ≡ true
    → cancel_use_by edition known t l bodies m r ≡ None
no_use First known t l bodies m (left k row) w = refl
no_use Second known t l bodies m (left k row) w = refl
no_use First known t l bodies m exposed w = refl
no_use Second known t l bodies m exposed w = refl
no_use First known t l bodies m pointed_to w = refl
no_use Second known t l bodies m pointed_to w = refl
no_use First known t l bodies m (argument k true c) w = no_argument known t l bodies m k c
no_use Second known t l bodies m (argument k true c) w = ap (λ o. either_use o None) (no_argument known t l bodies m k c)
no_use edition known t l bodies m (argument k false c) w = absurd (false≢true w)
no_use edition known t l bodies m elsewhere w = absurd (false≢true w)
no_use edition known t l bodies m as_key w = absurd (false≢true w)
no_use edition known t l bodies m (found_nil nil) w = absurd (false≢true w)
no_use edition known t l bodies m (found_error nil row) w = absurd (false≢true w)
no_use edition known t l bodies m (called c) w = absurd (false≢true w)
no_use edition known t l bodies m called_in_brackets w = absurd (false≢true w)
no_use edition known t l bodies m (returned k) w = absurd (false≢true w)
no_use edition known t l bodies m (names_type row) w = absurd (false≢true w)
no_use edition known t l bodies m (new_literal row) w = absurd (false≢true w)
no_use edition known t l bodies m parameter_pointer w = absurd (false≢true w)

its_kind : (seen : Seen) (l : Local) → tracked_kind seen (Some l) ≡ Some cancel → kind_of seen (Some l) ≡ Some cancel
its_kind seen l e = by (may_be_tracked l.role) e
  where
    by : (b : Bool) → (if b then kind_of_local seen.known seen.marks l else None) ≡ Some cancel
        → kind_of_local seen.known seen.marks l ≡ Some cancel
    by true h = h
    by false h = let bad : None ≡ Some cancel = h in cc

its_number : (seen : Seen) (l : Local) (o : Option ℕ) → found seen o ≡ Some l → is_of_local l o ≡ true
its_number seen l None e = let bad : None ≡ Some l = e in cc
its_number seen l (Some n) e = eq-eqb n l.number (sym (find_is seen.locals n l e).1)

cancel_is_no_group : Some cancel ≡ Some group → ⊥
cancel_is_no_group e = let same : cancel ≡ group = same_Some cancel group e in cc

again_there : (seen : Seen) (l : Local) (m : Mention)
    → is_in_literal seen l ≡ true
    → is_some (declared_by seen.known m) ≡ false
    → Contains (again_faults seen l m) record { at = m.named.at; code = bound_again; name = l.name }
again_there seen l m = by (is_in_literal seen l) (is_some (declared_by seen.known m))
  where
    by : (c d : Bool) → c ≡ true → d ≡ false
        → Contains (if c && not d then fault_at m.named.at bound_again l.name else []) record { at = m.named.at; code = bound_again; name = l.name }
    by true false p q = contains_here _ []
    by true true p q = absurd (true≢false q)
    by false d p q = absurd (false≢true p)

module _ (seen : Seen) (bodies : List BodyPlace) (m : Mention) (l : Local)
    (is : found seen (variable_of seen.known m) ≡ Some l) (tracked : tracked_kind seen (Some l) ≡ Some cancel)
    (among : Contains seen.marks record { mark = mentions m; bodies = bodies })
    (fits : Fits m.named m.declares m.role) (writes : may_write m.role ≡ true) where
  -- what the variable's outcome is
  module _ (o : Outcome) (same : role_outcome seen l bodies m m.role ≡ o) where
    its_outcome : o ≡ variable_outcome seen bodies m
    its_outcome = sym (ap (local_outcome seen bodies m) is ∙ same)

    faulty : (x : UseFault) → Contains o.faults x → IsSeenWrite seen bodies m l
    faulty x h =
        is_fault x (Contains-append_left (variable_outcome seen bodies m).faults
        (giving_faults seen bodies m (giving_of seen.known m.named) ++ errgroup_faults seen m) x
        (subst (λ (p : Outcome). Contains p.faults x) its_outcome h))

    bound : (e : Event) → Contains o.events e → BindsCancel e (variable_at l m) → IsSeenWrite seen bodies m l
    bound e h b =
        binds e (Contains-append_left (variable_outcome seen bodies m).events (error_events seen m m.role
        ++ (object_events seen bodies m ++ sent_events seen.known.edition seen bodies m)) e
        (subst (λ (p : Outcome). Contains p.events e) its_outcome h)) b

  -- a mention that binds nothing
  unbound : role_outcome seen l bodies m m.role ≡ mention_outcome seen l (tracked_kind seen (Some l)) bodies m
      → IsSeenWrite seen bodies m l
  unbound same =
      let none = no_use seen.known.edition seen.known (cancel_type_of seen l) l bodies m m.role writes in
      faulty (use_outcome cancel l m None)
      (same ∙ ap (λ k. mention_outcome seen l k bodies m) tracked ∙ ap (use_outcome cancel l m) none)
      record { at = m.named.at; code = cancel_used_otherwise; name = l.name } (contains_here _ [])

  -- a mention in a literal
  inside : is_own l bodies ≡ false → is_in_literal seen l ≡ true
  inside e =
      any_true (λ p. mentions_inside seen.known l p.bodies p.mark) seen.marks record { mark = mentions m; bodies = bodies }
      among (and_from (is_of_local l (variable_of seen.known m)) (not (is_own l bodies))
      (its_number seen l (variable_of seen.known m) is) (ap not e))

  -- a binding of a variable that the body declares in its block
  in_own : (row : Row) (k : ℕ) (binding : Binding) → m.role ≡ left k row → binding_at seen row k ≡ Some binding
      → (e : Event)
      → e ≡ binding_event seen.known l m row binding
      → BindsCancel e (variable_at l m)
  in_own row k (obtained j) q b e same = subst (λ (x : Event). BindsCancel x (variable_at l m)) (sym same) obtains
  in_own row k cleared q b e same = subst (λ (x : Event). BindsCancel x (variable_at l m)) (sym same) clears
  in_own row k (made state) q b e same =
      let there = mention_is_of_kind seen m row k l group (subst (Fits m.named m.declares) q fits) is
      (left_is_of_kind seen row k (made state) (named_is_no_outer seen.known row k m.named m.declares (subst (Fits m.named m.declares) q fits)) b) in
      absurd (cancel_is_no_group (sym (its_kind seen l tracked) ∙ there))

  in_block_so : (row : Row) (k : ℕ) (binding : Binding) → m.role ≡ left k row → binding_at seen row k ≡ Some binding
      → (own : Bool)
      → is_own l bodies ≡ own
      → role_outcome seen l bodies m m.role ≡ binding_outcome seen l cancel bodies m row binding in_block
      → IsSeenWrite seen bodies m l
  in_block_so row k binding q b true own same =
      let x = binding_event seen.known l m row binding in
      bound (binding_outcome seen l cancel bodies m row binding in_block) same x
      (subst (λ (c : Bool). Contains (if c then x ∷ [] else []) x) (sym own) (contains_here x []))
      (in_own row k binding q b x refl)
  in_block_so row k binding q b false own same = by (is_some (declared_by seen.known m)) refl
    where
      by : (d : Bool) → is_some (declared_by seen.known m) ≡ d → IsSeenWrite seen bodies m l
      by true e = declares_another own e
      by false e =
          let x : UseFault = record { at = m.named.at; code = bound_again; name = l.name } in
          faulty (binding_outcome seen l cancel bodies m row binding in_block) same x
          (Contains-append_right (first_faults row.standing cancel l m) (type_faults seen l m row binding ++ again_faults seen l m) x
          (Contains-append_right (type_faults seen l m row binding) (again_faults seen l m) x
          (again_there seen l m (inside own) e)))

  by_local_role : (row : Row) (k : ℕ) (binding : Binding) → m.role ≡ left k row → binding_at seen row k ≡ Some binding
      → (r : LocalRole)
      → role_outcome seen l bodies m m.role ≡ binding_outcome seen l cancel bodies m row binding r
      → IsSeenWrite seen bodies m l
  by_local_role row k binding q b (parameter n) same =
      let x : UseFault = record { at = m.named.at; code = cancel_used_otherwise; name = l.name } in
      faulty (binding_outcome seen l cancel bodies m row binding (parameter n)) same x (contains_here x (again_faults seen l m))
  by_local_role row k binding q b receiver same =
      let x : UseFault = record { at = m.named.at; code = cancel_used_otherwise; name = l.name } in
      faulty (binding_outcome seen l cancel bodies m row binding receiver) same x (contains_here x (again_faults seen l m))
  by_local_role row k binding q b variadic same =
      let x : UseFault = record { at = m.named.at; code = cancel_used_otherwise; name = l.name } in
      faulty (binding_outcome seen l cancel bodies m row binding variadic) same x (contains_here x [])
  by_local_role row k binding q b result same =
      let x : UseFault = record { at = m.named.at; code = bound_again; name = l.name } in
      faulty (binding_outcome seen l cancel bodies m row binding result) same x (contains_here x [])
  by_local_role row k binding q b in_block same = in_block_so row k binding q b (is_own l bodies) refl same

  by_binding : (row : Row) (k : ℕ) → m.role ≡ left k row → (b : Option Binding) → binding_at seen row k ≡ b
      → role_outcome seen l bodies m m.role ≡ row_outcome seen l (Some cancel) bodies m row b
      → IsSeenWrite seen bodies m l
  by_binding row k q None e same = unbound same
  by_binding row k q (Some binding) e same = by_local_role row k binding q e l.role same

  -- the role of a mention that writes
  by_role : (r : Role) → m.role ≡ r → may_write r ≡ true → IsSeenWrite seen bodies m l
  by_role (left k row) q w =
      by_binding row k q (binding_at seen row k) refl
      (ap (role_outcome seen l bodies m) q
      ∙ ap (λ kind. row_outcome seen l kind bodies m row (binding_at seen row k)) (its_kind seen l tracked))
  by_role exposed q w = unbound (ap (role_outcome seen l bodies m) q)
  by_role pointed_to q w = unbound (ap (role_outcome seen l bodies m) q)
  by_role (argument k b c) q w = unbound (ap (role_outcome seen l bodies m) q)
  by_role elsewhere q w = absurd (false≢true w)
  by_role as_key q w = absurd (false≢true w)
  by_role (found_nil nil) q w = absurd (false≢true w)
  by_role (found_error nil row) q w = absurd (false≢true w)
  by_role (called c) q w = absurd (false≢true w)
  by_role called_in_brackets q w = absurd (false≢true w)
  by_role (returned k) q w = absurd (false≢true w)
  by_role (names_type row) q w = absurd (false≢true w)
  by_role (new_literal row) q w = absurd (false≢true w)
  by_role parameter_pointer q w = absurd (false≢true w)

pub writes_are_seen : WritesAreSeen
writes_are_seen known tree bodies m l among is tracked writes =
    let fits = left_sides_fit known.edition (some_keep known.fields) tree record { mark = mentions m; bodies = bodies } among in
    by_role (seen_file known tree) bodies m l is tracked among fits writes m.role refl writes

-- Names that stand for a part: where the marks of an expression have their names in the text, so does the mention that
-- is told in their place. And the small rules of the grammar.
use Rattle.std.proofs.Common.{◌≡◌, ℕ, ◌+◌, ◌≤◌, Bool, true, false, List, [], ◌∷◌, ◌++◌, Option, Some, None, refl, sym, subst, Contains, inl, inr, ◌∙◌}
use Rattle.std.proofs.lemmas.List.Elements.{Contains-append_left, Contains-append_right, Contains-append_cases}
use Rattle.std.specs.Prelude.{◌&&◌, not, if◌then◌else◌, option_map, codes, ◌-◌}
use Rattle.tree.specs.declared.edition.Edition.{Edition}
use Rattle.tree.specs.declared.edition.Edition.TheVariants.{First, Second}
use Rattle.tree.specs.declared.span.Span.{Span}
use Rattle.tree.specs.declared.operator.BinaryOperator.{BinaryOperator}
use Rattle.tree.specs.declared.operator.BinaryOperator.TheVariants.{Add, Subtract, Or, Xor, Multiply, Divide, Remainder, ShiftLeft, ShiftRight, And, AndNot}
use Rattle.tree.specs.declared.operator.ChanDirection.{ChanDirection}
use Rattle.tree.specs.declared.operator.ChanDirection.TheVariants.{Both, Send, Receive}
use Rattle.tree.specs.declared.operator.UnaryOperator.{UnaryOperator}
use Rattle.tree.specs.declared.operator.UnaryOperator.TheVariants.{Address}
use Rattle.tree.specs.Syntax.{Identifier, TypeName, Expression, expression_node, ExpressionForm, name_expression, composite_literal, parenthesized, selector_expression, index_expression, instance_expression, star_expression, unary_expression, array_type, Expressions, no_expression, expression_and, OptionalExpression, missing_expression, present_expression, OptionalStatement, missing_statement, present_statement, Parameters, no_parameter, named_and, unnamed_and, name_alone_and, binary_expression, statement_node, if_statement, Statements, statement_and}
use Rattle.meaning.specs.Scopes.{is_blank, first_of, bare_names, named_in_type, named_in_types}
use Rattle.meaning.specs.Mentions.{Named, as_bare, as_named, without_brackets, as_bracketed, as_pointer, as_new_literal, select_from, embedded, Standing, ordinary, first_of_for, communication, Row, CallPlace, nowhere, as_statement, only_value, return_item, deferred, place_in, Call, call_of, is_one, is_none_left, LiteralUse, other_use, deferred_call, started_by, Role, elsewhere, called_in_brackets, argument, left, new_literal, parameter_pointer, BodyPlace, Mark, runs_literal, opens, closes, in_body, Spot, part_of, whole, mention, name_role, named_or, callee_or, addressed, argument_or, argument_at, new_literal_or, deferral, parameter_type_or, left_names, declared_elsewhere, guard_in_clause, expression_marks, form_marks, expressions_marks, arguments_marks, items_marks, lefts_marks, parameters_marks, exposed, addressed_within, bare_within, ranged_marks, NilTest, nil_test, nil_marks, nil_where, has_both, compares, exposed_or, error_where, error_marks, guard_marks, behind_row, statement_form_marks, statement_marks, statements_marks, optional_statement_marks, pointed_to, under_go, FieldLeft, Assigned, Taker, FieldMark, calls_field, writes_field, hands_over, hands_literal, renews, imports_all, of_fields, field_left, object_of, is_in_brackets, in_more_brackets, field_written, given_to, argument_taker, argument_spot, as_key, at_return, in_goroutine, call_under_go}
use Rattle.meaning.specs.Cursor.{GoText, Rule, ◌⨾◌, identifier}
use Rattle.meaning.specs.OperatorTokens.{assign_operator}
use Rattle.meaning.specs.Grammar.{Position, as_type, as_expression, as_value, as_element, as_constraint, end_of_selector, end_of_name, end_of_type, channel, arguments, perhaps, elements, third_bound, guard_name, initial, range_left, case_head, communication_head, optional_tag, before_item, after_items, after_instance, type_parameters, parameters_stand, length_stands, no_type_parameters, after_type_name, qualifier, type_name, import_name, SpellsExpression, SpellsExpressions, SpellsMore}
use Rattle.meaning.proofs.Membership.{contains_here, contains_nil, contains_cases, contains_there}
use Rattle.meaning_runs.specs.NamePlaces.{PlaceStandsWithin, RoleStandsWithin, StandsWithin, FieldStandsWithin}
use Rattle.meaning_runs.proofs.NameRules.{Says, Keeps, AllStandWithin, none_lie, lie_and, one_lies, both_lie, EachIn, says_nothing, keeps_nothing, says_never, keeps_not_before, keeps_token, behind, ending, says_one, so, keeps, given, spanned, enclosed, keeps_optional, keeps_only_if, keeps_string, keeps_semicolon, says_identifier, both, moved, no_marks, says_too, says_both}
use Rattle.std.specs.Str.{bytes_eq}
use Rattle.meaning_runs.proofs.FieldMarks.{FieldsOnly, no_more, and_one, IsNoWrite, given_only, written_only}
use Rattle.std.proofs.lemmas.Option.{none-some, same_Some}

-- what is named stands there
abbrev pub IsThere : ℕ → Option Named → Type 0
IsThere n None = Unit {0}
IsThere n (Some x) = x.at ≤ n

-- the name begins there, if it is one
abbrev pub NameIn : ℕ → Option Identifier → Type 0
NameIn n None = Unit {0}
NameIn n (Some name) = name.span.start ≤ n

-- what is tested stands there
record TestsIn (n : ℕ) (ts : List NilTest) : Type 0 where
  each : (t : NilTest) → Contains ts t → t.named.at ≤ n

selected_there : (n : ℕ) (o : Option Named) (m : Identifier) → IsThere n o → IsThere n (select_from o m)
selected_there n None m h = tt
selected_there n (Some x) m h = h

before_others : (n : ℕ) (ms ns : List Mark) → AllStandWithin n (ms ++ ns) → AllStandWithin n ms
before_others n ms ns h = record { each = λ m among. h.each m (Contains-append_left ms ns m among) }

after_others : (n : ℕ) (ms ns : List Mark) → AllStandWithin n (ms ++ ns) → AllStandWithin n ns
after_others n ms ns h = record { each = λ m among. h.each m (Contains-append_right ms ns m among) }

pub role_of_name : (n : ℕ) (place : CallPlace) → RoleStandsWithin n (name_role place)
role_of_name n nowhere = tt
role_of_name n as_statement = tt
role_of_name n (only_value row) = tt
role_of_name n (return_item k) = tt
role_of_name n deferred = tt
role_of_name n under_go = tt

pub statement_place : (n : ℕ) (standing : Standing) → PlaceStandsWithin n (place_in standing as_statement)
statement_place n ordinary = tt
statement_place n first_of_for = tt
statement_place n communication = tt

each_of_both : (n : ℕ) (xs ys : List Identifier) → EachIn n xs → EachIn n ys → EachIn n (xs ++ ys)
each_of_both n [] ys h k = k
each_of_both n (x ∷ xs) ys h k = (h.0, each_of_both n xs ys h.1 k)

-- a pointer to a name has none
pointer_has_none : (t : Expression) (x : Named) → as_pointer t ≡ Some x → named_in_type t ≡ []
pointer_has_none (expression_node (star_expression (expression_node (name_expression text) s)) span) x e = refl
pointer_has_none (expression_node (star_expression (expression_node (selector_expression f m) s)) span) x e = refl
pointer_has_none (expression_node (star_expression (expression_node _ s)) span) x e = let bad : None ≡ Some x = e in cc
pointer_has_none (expression_node _ span) x e = let bad : None ≡ Some x = e in cc

-- the field of a left side stands there
abbrev pub FieldIn : ℕ → Expression → Type 0
FieldIn n e = (l : FieldLeft) → field_left e ≡ Some l → l.field.span.start ≤ n

pub no_write_there : (n : ℕ) (m : FieldMark) → IsNoWrite m → FieldStandsWithin n m
no_write_there n (calls_field f) h = tt
no_write_there n (writes_field l by) h = absurd h
no_write_there n (hands_over taker e) h = tt
no_write_there n (hands_literal taker at) h = tt
no_write_there n (renews number) h = tt
no_write_there n imports_all h = tt

pub selected_field : (n : ℕ) (e : Expression) (m : Identifier) (span : Span) → m.span.start ≤ n
    → FieldIn n (expression_node (selector_expression e m) span)
selected_field n e m span low l q =
    subst (λ (x : FieldLeft). x.field.span.start ≤ n)
    (same_Some record { field = m; object = object_of e; has_brackets = is_in_brackets e } l q) low

pub bracketed_field : (n : ℕ) (e : Expression) (span : Span) → FieldIn n e
    → FieldIn n (expression_node (parenthesized e) span)
bracketed_field n e span h l q = by (field_left e) refl q
  where
    by : (o : Option FieldLeft) → field_left e ≡ o → option_map in_more_brackets o ≡ Some l → l.field.span.start ≤ n
    by None is k = absurd (none-some l k)
    by (Some x) is k =
        subst (λ (y : FieldLeft). y.field.span.start ≤ n) (same_Some (in_more_brackets x) l k) (h x is)

-- what is said of a form that selects no field
pub no_field_in : {n : ℕ} {fact : Type 0} {rule : Rule} (span : Span) (form : ExpressionForm)
    → field_left (expression_node form span) ≡ None
    → Says n fact rule
    → Says n (fact × FieldIn n (expression_node form span)) rule
no_field_in span form none h = so (λ w. (w, λ l q. absurd (none-some l (sym none ∙ q)))) h

module _ {n : ℕ} where
  -- marks of fields
  pub fields_lie : {site : ℕ} (ms : List Mark) → FieldsOnly (FieldStandsWithin n) site ms → AllStandWithin n ms
  fields_lie ms no_more = none_lie
  fields_lie ms (and_one {ms = rest} m p h) = lie_and (of_fields _ m) rest p (fields_lie rest h)

  pub given_lie : (site : ℕ) (taker : Taker) (e : Expression) → AllStandWithin n (given_to site taker e)
  given_lie site taker e =
      fields_lie (given_to site taker e) (given_only (FieldStandsWithin n) (no_write_there n) site taker e)

  pub written_lie : (site : ℕ) (by : Option Assigned) (e : Expression) → FieldIn n e
      → AllStandWithin n (field_written site by e)
  written_lie site by e h =
      fields_lie (field_written site by e) (written_only (FieldStandsWithin n) (no_write_there n) site by e h)

  first_mention : (m : Mark) (ms : List Mark) → AllStandWithin n (m ∷ ms) → StandsWithin n m
  first_mention m ms h = h.each m (contains_here m ms)

  -- the names that expressions are

  pub bare_there : (spot : Spot) (e : Expression) → AllStandWithin n (expression_marks spot e) → IsThere n (as_bare e)
  unfolding expression_marks form_marks
  bare_there spot (expression_node (name_expression text) span) h = (first_mention _ [] h).0
  bare_there spot _ h = tt

  pub named_mention : (o : Option Named) (site : ℕ) (role : Role) (ms : List Mark) → AllStandWithin n (named_or o site role ms) → IsThere n o
  named_mention None site role ms h = tt
  named_mention (Some x) site role ms h = (first_mention _ [] h).0

  pub name_there : (spot : Spot) (e : Expression) → AllStandWithin n (expression_marks spot e) → IsThere n (as_named e)
  unfolding expression_marks form_marks
  name_there spot (expression_node (name_expression text) span) h = (first_mention _ [] h).0
  name_there spot (expression_node (selector_expression e m) span) h =
      named_mention (select_from (as_bare e) m) spot.site elsewhere (expression_marks (part_of spot.site) e) h
  name_there spot _ h = tt

  -- in brackets of any number
  without_there : (spot : Spot) (e : Expression) → AllStandWithin n (expression_marks spot e) → IsThere n (as_named (without_brackets e))
  unfolding expression_marks form_marks
  without_there spot (expression_node (parenthesized e) span) h = without_there (part_of spot.site) e h
  without_there spot (expression_node (name_expression text) span) h =
      name_there spot (expression_node (name_expression text) span) h
  without_there spot (expression_node (selector_expression e m) span) h =
      name_there spot (expression_node (selector_expression e m) span) h
  without_there spot _ h = tt

  bracketed_there : (spot : Spot) (e : Expression) → AllStandWithin n (expression_marks spot e) → IsThere n (as_bracketed e)
  unfolding expression_marks form_marks
  bracketed_there spot (expression_node (parenthesized e) span) h = without_there (part_of spot.site) e h
  bracketed_there spot _ h = tt

  pub pointer_there : (spot : Spot) (e : Expression) → AllStandWithin n (expression_marks spot e) → IsThere n (as_pointer e)
  unfolding expression_marks form_marks
  pointer_there spot (expression_node (star_expression e) span) h = name_there (part_of spot.site) e h
  pointer_there spot _ h = tt

  literal_there : (spot : Spot) (e : Expression) → AllStandWithin n (expression_marks spot e) → IsThere n (as_new_literal Address e)
  unfolding expression_marks form_marks
  literal_there spot (expression_node (composite_literal t no_expression) span) h =
      name_there (part_of spot.site) t (before_others n _ _ h)
  literal_there spot _ h = tt

  pub new_there : (spot : Spot) (op : UnaryOperator) (e : Expression) → AllStandWithin n (expression_marks spot e)
      → IsThere n (as_new_literal op e)
  new_there spot Address e h = literal_there spot e h
  new_there spot _ e h = tt

  -- a bare name, in brackets of any number
  pub within_there : (spot : Spot) (e : Expression) → AllStandWithin n (expression_marks spot e) → IsThere n (bare_within e)
  unfolding expression_marks form_marks
  within_there spot (expression_node (parenthesized e) span) h = within_there (part_of spot.site) e h
  within_there spot (expression_node (name_expression text) span) h = (first_mention _ [] h).0
  within_there spot _ h = tt

  pub addressed_within_there : (spot : Spot) (op : UnaryOperator) (e : Expression) → AllStandWithin n (expression_marks spot e)
      → IsThere n (addressed_within op e)
  addressed_within_there spot Address e h = within_there spot e h
  addressed_within_there spot _ e h = tt

  addressed_there : (site : ℕ) (op : UnaryOperator) (e : Expression) (ms : List Mark)
      → AllStandWithin n (named_or (addressed_within op e) site pointed_to ms)
      → IsThere n (addressed op e)
  addressed_there site Address (expression_node (name_expression text) span) ms h = (first_mention _ [] h).0
  addressed_there site Address _ ms h = tt
  addressed_there site _ e ms h = tt

  -- mentions in place of a part's own marks

  pub in_place : (o : Option Named) (site : ℕ) (role : Role) {ms : List Mark} → IsThere n o → RoleStandsWithin n role → AllStandWithin n ms
      → AllStandWithin n (named_or o site role ms)
  in_place None site role low lies h = h
  in_place (Some x) site role low lies h = one_lies (mention site role x) (low, lies)

  pub exposed_in : (spot : Spot) (e : Expression) → AllStandWithin n (expression_marks spot e)
      → AllStandWithin n (exposed_or spot.site e (expression_marks spot e))
  exposed_in spot e h = in_place (bare_within e) spot.site exposed (within_there spot e h) tt h

  -- a key
  pub keyed : (spot : Spot) (e : Expression) → AllStandWithin n (expression_marks spot e)
      → AllStandWithin n (named_or (as_bare e) spot.site as_key (expression_marks spot e))
  keyed spot e h = in_place (as_bare e) spot.site as_key (bare_there spot e h) tt h

  pub selected : (spot : Spot) (e : Expression) (m : Identifier) → AllStandWithin n (expression_marks (part_of spot.site) e)
      → AllStandWithin n (named_or (select_from (as_bare e) m) spot.site elsewhere (expression_marks (part_of spot.site) e))
  selected spot e m h =
      in_place (select_from (as_bare e) m) spot.site elsewhere
      (selected_there n (as_bare e) m (bare_there (part_of spot.site) e h)) tt h

  pub callee_by : (site : ℕ) (place : CallPlace) (spot : Spot) (e : Expression) (es : Expressions) (ellipsis : Bool)
      → PlaceStandsWithin n place
      → AllStandWithin n (expression_marks spot e)
      → AllStandWithin n (callee_or (call_of place e es ellipsis) site e (expression_marks spot e))
  callee_by site place spot e es ellipsis lies h = by (as_named e) (name_there spot e h)
    where
      by : (o : Option Named) → IsThere n o
          → AllStandWithin n (callee_or (option_map (λ x. record { callee = x; arguments = es; has_ellipsis = ellipsis; place = place }) o) site e (expression_marks spot e))
      by None low = in_place (as_bracketed e) site called_in_brackets (bracketed_there spot e h) tt h
      by (Some x) low = one_lies _ (low, lies)

  either : (b : Bool) {ms ns : List Mark} → AllStandWithin n ms → AllStandWithin n ns → AllStandWithin n (if b then ms else ns)
  either true h k = h
  either false h k = k

  argued : (c : Call) (site k : ℕ) (spot : Spot) (e : Expression) → spot.place ≡ nowhere → AllStandWithin n (expression_marks spot e)
      → AllStandWithin n (argument_or c site k e (expression_marks spot e))
  unfolding expression_marks form_marks
  argued c site k spot (expression_node (unary_expression op e) span) is h =
      let operand = named_or (addressed_within op e) spot.site pointed_to (expression_marks (part_of spot.site) e) in
      let own = subst (λ (p : CallPlace). AllStandWithin n (new_literal_or p spot.site (as_new_literal op e) operand)) is h in
      in_place (addressed op e) site (argument k true c)
      (addressed_there spot.site op e (expression_marks (part_of spot.site) e) own) tt h
  argued c site k spot e is h = in_place (as_named e) site (argument k false c) (name_there spot e h) tt h

  pub argued_at : (c : Option Call) (site k : ℕ) (is_last : Bool) (spot : Spot) (e : Expression) → spot.place ≡ nowhere
      → AllStandWithin n (expression_marks spot e)
      → AllStandWithin n (argument_at c site k is_last e (expression_marks spot e))
  argued_at None site k is_last spot e is h = h
  argued_at (Some c) site k is_last spot e is h = either (is_last && c.has_ellipsis) h (argued c site k spot e is h)

  pub newly : (place : CallPlace) (site : ℕ) (o : Option Named) {ms : List Mark} → IsThere n o → AllStandWithin n ms
      → AllStandWithin n (new_literal_or place site o ms)
  newly nowhere site o low h = h
  newly as_statement site o low h = h
  newly (only_value row) site o low h = in_place o site (new_literal row) low tt h
  newly (return_item k) site o low h = h
  newly deferred site o low h = h
  newly under_go site o low h = h

  pub typed : (is_plain : Bool) (spot : Spot) (t : Expression) (site : ℕ) → AllStandWithin n (expression_marks spot t)
      → AllStandWithin n (parameter_type_or is_plain t site (expression_marks spot t))
  typed is_plain spot t site h = either is_plain (in_place (as_pointer t) site parameter_pointer (pointer_there spot t h) tt h) h

  pub value_place : (row : Row) → row.statement ≤ n
      → PlaceStandsWithin n (if is_one row.values then place_in row.standing (only_value row) else nowhere)
  value_place row low = by (is_one row.values) (of row.standing)
    where
      of : (standing : Standing) → PlaceStandsWithin n (place_in standing (only_value row))
      of ordinary = low
      of first_of_for = low
      of communication = tt

      by : (b : Bool) → PlaceStandsWithin n (place_in row.standing (only_value row))
          → PlaceStandsWithin n (if b then place_in row.standing (only_value row) else nowhere)
      by true h = h
      by false h = tt

  -- names that are declared

  pub names_lie : (row : Row) (site k : ℕ) (names : List Identifier) → EachIn n names → AllStandWithin n (left_names row site k names)
  names_lie row site k [] h = none_lie
  names_lie row site k (name ∷ names) h = lie_and _ _ (h.0, tt) (names_lie row site (k + 1) names h.1)

  -- what a condition finds out stands in it

  tests_both : (xs ys : List NilTest) → TestsIn n xs → TestsIn n ys → TestsIn n (xs ++ ys)
  tests_both xs ys h k = record {
    each = λ t among. elim (Contains-append_cases xs ys t among) [ inl one ↦ h.each t one | inr other ↦ k.each t other ];
  }

  no_tests : TestsIn n []
  no_tests = record { each = λ t none. absurd (contains_nil t none) }

  one_test : (x : NilTest) → x.named.at ≤ n → TestsIn n (x ∷ [])
  one_test x low = record {
    each = λ t among. elim (contains_cases x t [] among) [
      | inl same ↦ subst (λ (y : NilTest). y.named.at ≤ n) same low
      | inr none ↦ absurd (contains_nil t none)
    ];
  }

  tested : (o z : Option Named) → IsThere n o → TestsIn n (nil_test o z)
  tested None z low = no_tests
  tested (Some x) None low = no_tests
  tested (Some x) (Some z) low = by (bytes_eq z.name (codes "nil"))
    where
      by : (b : Bool) → TestsIn n (if b then record { named = x; nil = z.at } ∷ [] else [])
      by true = one_test record { named = x; nil = z.at } low
      by false = no_tests

  compared : (spot : Spot) (l r : Expression)
      → AllStandWithin n (expression_marks spot l)
      → AllStandWithin n (expression_marks spot r)
      → TestsIn n (nil_test (as_bare l) (as_bare r) ++ nil_test (as_bare r) (as_bare l))
  compared spot l r h k =
      tests_both (nil_test (as_bare l) (as_bare r)) (nil_test (as_bare r) (as_bare l))
      (tested (as_bare l) (as_bare r) (bare_there spot l h)) (tested (as_bare r) (as_bare l) (bare_there spot r k))

  tests_of : (both_do is_test : Bool) (xs ys zs : List NilTest) → TestsIn n xs → TestsIn n ys → TestsIn n zs
      → TestsIn n (if both_do then xs ++ ys else if is_test then zs else [])
  tests_of true is_test xs ys zs h k l = tests_both xs ys h k
  tests_of false true xs ys zs h k l = l
  tests_of false false xs ys zs h k l = no_tests

  nil_tests : (spot : Spot) (outcome : Bool) (e : Expression) → AllStandWithin n (expression_marks spot e)
      → TestsIn n (nil_where outcome e)
  unfolding expression_marks form_marks
  nil_tests spot outcome (expression_node (binary_expression op l r) span) h =
      let first = before_others n (expression_marks (part_of spot.site) l) (expression_marks (part_of spot.site) r) h in
      let second = after_others n (expression_marks (part_of spot.site) l) (expression_marks (part_of spot.site) r) h in
      tests_of (has_both outcome op) (compares outcome op) (nil_where outcome l) (nil_where outcome r)
      (nil_test (as_bare l) (as_bare r) ++ nil_test (as_bare r) (as_bare l))
      (nil_tests (part_of spot.site) outcome l first) (nil_tests (part_of spot.site) outcome r second)
      (compared (part_of spot.site) l r first second)
  nil_tests spot outcome _ h = no_tests

  error_tests : (spot : Spot) (outcome : Bool) (e : Expression) → AllStandWithin n (expression_marks spot e)
      → TestsIn n (error_where outcome e)
  unfolding expression_marks form_marks
  error_tests spot outcome (expression_node (binary_expression op l r) span) h =
      let first = before_others n (expression_marks (part_of spot.site) l) (expression_marks (part_of spot.site) r) h in
      let second = after_others n (expression_marks (part_of spot.site) l) (expression_marks (part_of spot.site) r) h in
      by (compares (not outcome) op) (compared (part_of spot.site) l r first second)
    where
      by : (b : Bool) → TestsIn n (nil_test (as_bare l) (as_bare r) ++ nil_test (as_bare r) (as_bare l))
          → TestsIn n (if b then nil_test (as_bare l) (as_bare r) ++ nil_test (as_bare r) (as_bare l) else [])
      by true k = k
      by false k = no_tests
  error_tests spot outcome _ h = no_tests

  later_tests : (t : NilTest) (ts : List NilTest) → TestsIn n (t ∷ ts) → TestsIn n ts
  later_tests t ts h = record { each = λ u among. h.each u (contains_there t u ts among) }

  nil_stand : (site : ℕ) (ts : List NilTest) → TestsIn n ts → AllStandWithin n (nil_marks site ts)
  nil_stand site [] h = none_lie
  nil_stand site (t ∷ ts) h =
      lie_and _ _ (h.each t (contains_here t ts), tt) (nil_stand site ts (later_tests t ts h))

  error_stand : (site : ℕ) (row : Row) (ts : List NilTest) → TestsIn n ts → AllStandWithin n (error_marks site row ts)
  error_stand site row [] h = none_lie
  error_stand site row (t ∷ ts) h =
      lie_and _ _ (h.each t (contains_here t ts), tt) (error_stand site row ts (later_tests t ts h))

  pub nil_lie : (spot : Spot) (site : ℕ) (outcome : Bool) (e : Expression) → AllStandWithin n (expression_marks spot e)
      → AllStandWithin n (nil_marks site (nil_where outcome e))
  nil_lie spot site outcome e h = nil_stand site (nil_where outcome e) (nil_tests spot outcome e h)

  pub row_guard_lies : (spot : Spot) (row : Option Row) (c : Expression) (braces : Span)
      → AllStandWithin n (expression_marks spot c)
      → AllStandWithin n (guard_marks row c braces)
  row_guard_lies spot None c braces h = none_lie
  row_guard_lies spot (Some row) c braces h =
      both_lie (error_stand braces.start row (error_where true c) (error_tests spot true c h))
      (error_stand (braces.end - 1) row (error_where false c) (error_tests spot false c h))

  pub behind_lies : (row : Option Row) (ss : Statements) → AllStandWithin n (statements_marks ss)
      → AllStandWithin n (behind_row row ss)
  unfolding statements_marks statement_marks statement_form_marks optional_statement_marks
  behind_lies row (statement_and (statement_node (if_statement missing_statement semicolon c ss braces other) span) rest) h =
      row_guard_lies (part_of span.start) row c braces
      (before_others n (expression_marks (part_of span.start) c) _
      (before_others n (statement_form_marks ordinary span.start (if_statement missing_statement semicolon c ss braces other)) _ h))
  behind_lies row ss h = none_lie

  pub elsewhere_lie : (site : ℕ) (names : List Identifier) → EachIn n names → AllStandWithin n (declared_elsewhere site names)
  elsewhere_lie site [] h = none_lie
  elsewhere_lie site (name ∷ names) h = lie_and _ _ (h.0, tt) (elsewhere_lie site names h.1)

  -- the names in the brackets behind a receiver's type, which stand among the marks of the type

  behind_others : (ms ns : List Mark) → AllStandWithin n (ms ++ ns) → AllStandWithin n ns
  behind_others ms ns h = record { each = λ m among. h.each m (Contains-append_right ms ns m among) }

  bare_names_lie : (spot : Spot) (es : Expressions) → AllStandWithin n (expressions_marks spot es) → EachIn n (bare_names es)
  unfolding expressions_marks expression_marks form_marks
  bare_names_lie spot no_expression h = tt
  bare_names_lie spot (expression_and (expression_node (name_expression text) span) es) h =
      ((first_mention _ _ h).0, bare_names_lie spot es (behind_others (form_marks spot span (name_expression text)) _ h))
  bare_names_lie spot (expression_and (expression_node form span) es) h =
      bare_names_lie spot es (behind_others (form_marks spot span form) _ h)

  type_names_lie : (spot : Spot) (t : Expression) → AllStandWithin n (expression_marks spot t) → EachIn n (named_in_type t)
  unfolding expressions_marks expression_marks form_marks
  type_names_lie spot (expression_node (parenthesized t) span) h = type_names_lie (part_of spot.site) t h
  type_names_lie spot (expression_node (star_expression t) span) h = type_names_lie (part_of spot.site) t h
  type_names_lie spot (expression_node (index_expression t p) span) h =
      bare_names_lie (part_of spot.site) (expression_and p no_expression)
      (both_lie (behind_others (expression_marks (part_of spot.site) t) _ h) none_lie)
  type_names_lie spot (expression_node (instance_expression t ps) span) h =
      bare_names_lie (part_of spot.site) ps (behind_others (expression_marks (part_of spot.site) t) _ h)
  type_names_lie spot _ h = tt

  parameter_names_lie : (is_plain : Bool) (site : ℕ) (t : Expression)
      → AllStandWithin n (parameter_type_or is_plain t site (expression_marks (part_of site) t))
      → EachIn n (named_in_type t)
  parameter_names_lie false site t h = type_names_lie (part_of site) t h
  parameter_names_lie true site t h = by (as_pointer t) refl h
    where
      by : (o : Option Named) → as_pointer t ≡ o
          → AllStandWithin n (named_or o site parameter_pointer (expression_marks (part_of site) t))
          → EachIn n (named_in_type t)
      by None e k = type_names_lie (part_of site) t k
      by (Some x) e k = subst (EachIn n) (sym (pointer_has_none t x e)) tt

  pub receiver_names_lie : (site : ℕ) (ps : Parameters) → AllStandWithin n (parameters_marks true site ps) → EachIn n (named_in_types ps)
  unfolding parameters_marks
  receiver_names_lie site no_parameter h = tt
  receiver_names_lie site (named_and name ellipsis t ps) h =
      each_of_both n (named_in_type t) (named_in_types ps)
      (parameter_names_lie (true && not ellipsis) site t (before_others n _ (parameters_marks true site ps) h))
      (receiver_names_lie site ps (behind_others (parameter_type_or (true && not ellipsis) t site (expression_marks (part_of site) t)) _ h))
  receiver_names_lie site (unnamed_and ellipsis t ps) h =
      each_of_both n (named_in_type t) (named_in_types ps)
      (parameter_names_lie (true && not ellipsis) site t (before_others n _ (parameters_marks true site ps) h))
      (receiver_names_lie site ps (behind_others (parameter_type_or (true && not ellipsis) t site (expression_marks (part_of site) t)) _ h))
  receiver_names_lie site (name_alone_and name ps) h = receiver_names_lie site ps h

  pub guard_lies : (site : ℕ) (name : Option Identifier) (clause : Span) → NameIn n name → AllStandWithin n (guard_in_clause site name clause)
  guard_lies site None clause h = none_lie
  guard_lies site (Some name) clause h = either (is_blank name.text) none_lie (one_lies _ (h, tt))

  pub deferral_lies : (used : LiteralUse) (site at : ℕ) → AllStandWithin n (deferral used site at)
  deferral_lies other_use site at = none_lie
  deferral_lies deferred_call site at = one_lies (runs_literal at_return site at) tt
  deferral_lies call_under_go site at = one_lies (runs_literal in_goroutine site at) tt
  deferral_lies (started_by x) site at = none_lie

  pub body_lies : (b : BodyPlace) {ms : List Mark} → StandsWithin n (opens b) → AllStandWithin n ms → AllStandWithin n (in_body b ms)
  body_lies b {ms} own h = lie_and (opens b) (ms ++ closes ∷ []) own (both_lie h (one_lies closes tt))

-- Small rules

module _ {n : ℕ} where
  pub keeps_end_of_name : (edition : Edition) (place : Position) → Keeps n (end_of_name edition place)
  keeps_end_of_name edition as_type = behind (keeps_not_before _) (keeps_not_before _)
  keeps_end_of_name edition as_expression = keeps_nothing
  keeps_end_of_name edition as_value = keeps_nothing
  keeps_end_of_name edition as_element = keeps_nothing
  keeps_end_of_name edition as_constraint = keeps_nothing

  pub keeps_end_of_selector : (edition : Edition) (place : Position) → Keeps n (end_of_selector edition place)
  keeps_end_of_selector edition as_type = keeps_not_before _
  keeps_end_of_selector edition as_expression = keeps_nothing
  keeps_end_of_selector edition as_value = keeps_nothing
  keeps_end_of_selector edition as_element = keeps_nothing
  keeps_end_of_selector edition as_constraint = keeps_nothing

  pub keeps_end_of_type : (place : Position) → Keeps n (end_of_type place)
  keeps_end_of_type as_type = keeps_nothing
  keeps_end_of_type as_expression = keeps_not_before _
  keeps_end_of_type as_value = keeps_not_before _
  keeps_end_of_type as_element = keeps_not_before _
  keeps_end_of_type as_constraint = keeps_not_before _

  pub keeps_channel : (place : Position) (direction : ChanDirection) → Keeps n (channel place direction)
  keeps_channel place Both = behind (keeps_token _) (keeps_not_before _)
  keeps_channel place Send = behind (keeps_token _) (keeps_token _)
  keeps_channel as_type Receive = behind (keeps_token _) (keeps_token _)
  keeps_channel place Receive = says_never

  pub keeps_assign_operator : (op : BinaryOperator) → Keeps n (assign_operator op)
  keeps_assign_operator Add = keeps_token _
  keeps_assign_operator Subtract = keeps_token _
  keeps_assign_operator Or = keeps_token _
  keeps_assign_operator Xor = keeps_token _
  keeps_assign_operator Multiply = keeps_token _
  keeps_assign_operator Divide = keeps_token _
  keeps_assign_operator Remainder = keeps_token _
  keeps_assign_operator ShiftLeft = keeps_token _
  keeps_assign_operator ShiftRight = keeps_token _
  keeps_assign_operator And = keeps_token _
  keeps_assign_operator AndNot = keeps_token _
  keeps_assign_operator op = says_never

  pub keeps_tag : (tag : Option Span) → Keeps n (optional_tag tag)
  keeps_tag None = keeps_nothing
  keeps_tag (Some span) = spanned keeps_string

  pub keeps_before_item : (first : Bool) → Keeps n (before_item first)
  keeps_before_item true = keeps_nothing
  keeps_before_item false = keeps_token _

  pub keeps_after_items : (first : Bool) → Keeps n (after_items first)
  keeps_after_items true = keeps_nothing
  keeps_after_items false = keeps_optional (keeps_token _)

  -- the name of an embedded type
  by_qualifier : (text : GoText) (o : Option Identifier) (name : Identifier)
      → Says n ((first_of o name).span.start ≤ n) (qualifier text o ⨾ identifier text name)
  by_qualifier text None name = behind keeps_nothing (says_identifier text name)
  by_qualifier text (Some q) name = ending (ending (says_identifier text q) (keeps_token _)) (says_identifier text name)

  pub says_type_name : (text : GoText) (t : TypeName) → Says n ((embedded t).at ≤ n) (type_name text t)
  says_type_name text t = spanned (by_qualifier text t.qualifier t.name)

  pub says_guard_name : (text : GoText) (o : Option Identifier) → Says n (NameIn n o) (guard_name text o)
  says_guard_name text None = says_nothing tt
  says_guard_name text (Some name) = ending (says_identifier text name) (keeps_token _)

  pub keeps_import_name : (text : GoText) (o : Option Identifier) → Keeps n (import_name text o)
  keeps_import_name text None = keeps_nothing
  keeps_import_name text (Some name) =
      says_one (keeps (says_identifier text name)) (given (given (spanned (keeps_token _))))

  -- instances and type parameters

  pub keeps_after_instance : (es : Expressions) → Keeps n (after_instance es)
  keeps_after_instance no_expression = keeps_optional (keeps_token _)
  keeps_after_instance (expression_and e no_expression) = keeps_token _
  keeps_after_instance (expression_and e (expression_and f es)) = keeps_optional (keeps_token _)

  keeps_stand : (stand : Bool) → Keeps n (parameters_stand stand)
  keeps_stand stand from to k s = keeps_nothing from to k s.0

  keeps_length : (form : ExpressionForm) → Keeps n (length_stands form)
  keeps_length (array_type size t) = given (keeps_stand false)
  keeps_length form = keeps_nothing

  keeps_no_parameters : (edition : Edition) (is_alias : Bool) (t : Expression) → Keeps n (no_type_parameters edition is_alias t)
  keeps_no_parameters First is_alias t = keeps_nothing
  keeps_no_parameters Second true t = keeps_nothing
  keeps_no_parameters Second false (expression_node form span) = keeps_length form

  module _ {fact : Type 0} {list : Rule} where
    pub says_type_parameters : (allowed : Type 0) (ps : Parameters) → (ps ≡ no_parameter → fact) → Says n fact list
        → Says n fact (type_parameters allowed ps list)
    says_type_parameters allowed no_parameter q h = says_nothing (q refl)
    says_type_parameters allowed (named_and name ellipsis t ps) q h = given (given (enclosed _ _ h))
    says_type_parameters allowed (unnamed_and ellipsis t ps) q h = given (given (enclosed _ _ h))
    says_type_parameters allowed (name_alone_and name ps) q h = given (given (enclosed _ _ h))

    pub says_after_name : (edition : Edition) (ps : Parameters) (is_alias : Bool) (t : Expression)
        → (ps ≡ no_parameter → fact)
        → Says n fact list
        → Says n fact (after_type_name edition ps is_alias t list)
    says_after_name edition no_parameter is_alias t q h = so (λ w. q refl) (keeps_no_parameters edition is_alias t)
    says_after_name edition (named_and name ellipsis u ps) is_alias t q h =
        behind (says_one (keeps_stand true) (given (keeps_stand false))) (says_type_parameters _ (named_and name ellipsis u ps) q h)
    says_after_name edition (unnamed_and ellipsis u ps) is_alias t q h =
        behind (says_one (keeps_stand true) (given (keeps_stand false))) (says_type_parameters _ (unnamed_and ellipsis u ps) q h)
    says_after_name edition (name_alone_and name ps) is_alias t q h =
        behind (says_one (keeps_stand true) (given (keeps_stand false))) (says_type_parameters _ (name_alone_and name ps) q h)

  -- lists that may be empty, and have no marks then

  module _ (es : Expressions) (f : Expressions → List Mark) {list : Rule} where
    pub says_arguments : (ellipsis : Bool) → f no_expression ≡ [] → Says n (AllStandWithin n (f es)) list
        → Says n (AllStandWithin n (f es)) (arguments es ellipsis list)
    says_arguments ellipsis e h = by es ellipsis h
      where
        by : (es : Expressions) (ellipsis : Bool) → Says n (AllStandWithin n (f es)) list → Says n (AllStandWithin n (f es)) (arguments es ellipsis list)
        by no_expression true h = says_never
        by no_expression false h = moved (sym e) (says_nothing none_lie)
        by (expression_and e es) ellipsis h =
            ending h (behind (keeps_only_if ellipsis (keeps_token _)) (keeps_optional (keeps_token _)))

    pub says_perhaps : f no_expression ≡ [] → Says n (AllStandWithin n (f es)) list → Says n (AllStandWithin n (f es)) (perhaps es list)
    says_perhaps e h = by es h
      where
        by : (es : Expressions) → Says n (AllStandWithin n (f es)) list → Says n (AllStandWithin n (f es)) (perhaps es list)
        by no_expression h = moved (sym e) (says_nothing none_lie)
        by (expression_and e es) h = h

    pub says_elements : f no_expression ≡ [] → Says n (AllStandWithin n (f es)) list → Says n (AllStandWithin n (f es)) (elements es list)
    says_elements e h = by es h
      where
        by : (es : Expressions) → Says n (AllStandWithin n (f es)) list → Says n (AllStandWithin n (f es)) (elements es list)
        by no_expression h = moved (sym e) (says_nothing none_lie)
        by (expression_and e es) h = ending h (keeps_optional (keeps_token _))

    pub says_range_left : f no_expression ≡ [] → Says n (AllStandWithin n (f es)) list → Says n (AllStandWithin n (f es)) (range_left es list)
    says_range_left e h = by es h
      where
        by : (es : Expressions) → Says n (AllStandWithin n (f es)) list → Says n (AllStandWithin n (f es)) (range_left es list)
        by no_expression h = moved (sym e) (says_nothing none_lie)
        by (expression_and e es) h = ending h (keeps_token _)

    pub says_case_head : f no_expression ≡ [] → Says n (AllStandWithin n (f es)) list → Says n (AllStandWithin n (f es)) (case_head es list)
    says_case_head e h = by es h
      where
        by : (es : Expressions) → Says n (AllStandWithin n (f es)) list → Says n (AllStandWithin n (f es)) (case_head es list)
        by no_expression h = moved (sym e) (no_marks (keeps_token _))
        by (expression_and e es) h = behind (keeps_token _) h

  pub says_third_bound : (e : OptionalExpression) {ms : List Mark} {bound : Rule}
      → (e ≡ missing_expression → ms ≡ [])
      → Says n (AllStandWithin n ms) bound
      → Says n (AllStandWithin n ms) (third_bound e bound)
  says_third_bound missing_expression q h = moved (sym (q refl)) (says_nothing none_lie)
  says_third_bound (present_expression e) q h = behind (keeps_token _) h

  pub says_initial : (s : OptionalStatement) (has_semicolon : Bool) {ms : List Mark} {rule : Rule}
      → (s ≡ missing_statement → ms ≡ [])
      → Says n (AllStandWithin n ms) rule
      → Says n (AllStandWithin n ms) (initial s has_semicolon rule)
  says_initial missing_statement false q h = moved (sym (q refl)) (says_nothing none_lie)
  says_initial missing_statement true q h = moved (sym (q refl)) (no_marks keeps_semicolon)
  says_initial (present_statement s) false q h = says_never
  says_initial (present_statement s) true q h = ending h keeps_semicolon

  pub says_communication : (s : OptionalStatement) {ms : List Mark} {rule : Rule}
      → (s ≡ missing_statement → ms ≡ [])
      → Says n (AllStandWithin n ms) rule
      → Says n (AllStandWithin n ms) (communication_head s rule)
  says_communication missing_statement q h = moved (sym (q refl)) (no_marks (keeps_token _))
  says_communication (present_statement s) q h = behind (keeps_token _) h

-- Lists of expressions of which each says where its names stand

module _ (n : ℕ) (text : GoText) (place : Position) where
  abbrev pub EachSays : Expressions → Type 0
  EachSays no_expression = Unit {0}
  EachSays (expression_and e es) =
      ((spot : Spot) → PlaceStandsWithin n spot.place → Says n (AllStandWithin n (expression_marks spot e)) (SpellsExpression text place e))
      × Says n (FieldIn n e) (SpellsExpression text place e)
      × EachSays es

  more_expressions : (spot : Spot) (es : Expressions) → PlaceStandsWithin n spot.place → EachSays es
      → Says n (AllStandWithin n (expressions_marks spot es)) (SpellsMore text place es)
  unfolding SpellsMore expressions_marks
  more_expressions spot no_expression low h = says_nothing none_lie
  more_expressions spot (expression_and e es) low h =
      behind (keeps_token _) (both (h.0 spot low) (more_expressions spot es low h.2))

  pub says_expressions : (spot : Spot) (es : Expressions) → PlaceStandsWithin n spot.place → EachSays es
      → Says n (AllStandWithin n (expressions_marks spot es)) (SpellsExpressions text place es)
  unfolding SpellsExpressions expressions_marks
  says_expressions spot no_expression low h = says_never
  says_expressions spot (expression_and e es) low h = both (h.0 spot low) (more_expressions spot es low h.2)

  argument_said : (stands : CallPlace) (c : Option Call) (site k : ℕ) (e : Expression) (es : Expressions) → EachSays (expression_and e es)
      → Says n (AllStandWithin n (argument_at c site k (is_none_left es) e (expression_marks (argument_spot stands c site) e)))
      (SpellsExpression text place e)
  argument_said stands c site k e es h =
      let spot = argument_spot stands c site in
      so (argued_at c site k (is_none_left es) spot e refl) (h.0 spot tt)

  more_arguments : (stands : CallPlace) (c : Option Call) (site k : ℕ) (es : Expressions) → EachSays es
      → Says n (AllStandWithin n (arguments_marks stands c site k es)) (SpellsMore text place es)
  unfolding SpellsMore arguments_marks
  more_arguments stands c site k no_expression h = says_nothing none_lie
  more_arguments stands c site k (expression_and e es) h =
      behind (keeps_token _)
      (both (argument_said stands c site k e es h)
      (so (λ w. both_lie (given_lie site (argument_taker stands c) e) w) (more_arguments stands c site (k + 1) es h.2)))

  pub says_argument_list : (stands : CallPlace) (c : Option Call) (site k : ℕ) (es : Expressions) → EachSays es
      → Says n (AllStandWithin n (arguments_marks stands c site k es)) (SpellsExpressions text place es)
  unfolding SpellsExpressions arguments_marks
  says_argument_list stands c site k no_expression h = says_never
  says_argument_list stands c site k (expression_and e es) h =
      both (argument_said stands c site k e es h)
      (so (λ w. both_lie (given_lie site (argument_taker stands c) e) w) (more_arguments stands c site (k + 1) es h.2))

  more_items : (site k : ℕ) (es : Expressions) → EachSays es
      → Says n (AllStandWithin n (items_marks site k es)) (SpellsMore text place es)
  unfolding SpellsMore items_marks
  more_items site k no_expression h = says_nothing none_lie
  more_items site k (expression_and e es) h =
      behind (keeps_token _) (both (h.0 (whole (return_item k) site) tt) (more_items site (k + 1) es h.2))

  pub says_items : (site k : ℕ) (es : Expressions) → EachSays es
      → Says n (AllStandWithin n (items_marks site k es)) (SpellsExpressions text place es)
  unfolding SpellsExpressions items_marks
  says_items site k no_expression h = says_never
  says_items site k (expression_and e es) h = both (h.0 (whole (return_item k) site) tt) (more_items site (k + 1) es h.2)

  on_left : (row : Row) (site k : ℕ) (e : Expression) → AllStandWithin n (expression_marks (part_of site) e)
      → AllStandWithin n (named_or (as_bare e) site (left k row) (named_or (bare_within e) site exposed (expression_marks (part_of site) e)))
  on_left row site k e h =
      in_place (as_bare e) site (left k row) (bare_there (part_of site) e h) tt
      (in_place (bare_within e) site exposed (within_there (part_of site) e h) tt h)

  on_ranged : (site : ℕ) (e : Expression) → AllStandWithin n (expression_marks (part_of site) e)
      → AllStandWithin n (named_or (bare_within e) site exposed (expression_marks (part_of site) e))
  on_ranged site e h = in_place (bare_within e) site exposed (within_there (part_of site) e h) tt h

  -- what is written there gets a value
  written_said : (site : ℕ) (by : Option Assigned) (e : Expression) (es : Expressions) {ms : List Mark} → EachSays (expression_and e es)
      → (AllStandWithin n (expression_marks (part_of site) e) → AllStandWithin n ms)
      → Says n (AllStandWithin n ms × AllStandWithin n (field_written site by e)) (SpellsExpression text place e)
  written_said site by e es h f =
      so (λ w. (f w.0, written_lie site by e w.1)) (says_too (h.0 (part_of site) tt) h.1)

  more_ranged : (site : ℕ) (es : Expressions) → EachSays es
      → Says n (AllStandWithin n (ranged_marks site es)) (SpellsMore text place es)
  unfolding SpellsMore ranged_marks
  more_ranged site no_expression h = says_nothing none_lie
  more_ranged site (expression_and e es) h =
      behind (keeps_token _)
      (so (λ w. both_lie w.0.0 (both_lie w.0.1 w.1))
      (says_both (written_said site None e es h (on_ranged site e)) (more_ranged site es h.2)))

  pub says_ranged : (site : ℕ) (es : Expressions) → EachSays es
      → Says n (AllStandWithin n (ranged_marks site es)) (SpellsExpressions text place es)
  unfolding SpellsExpressions ranged_marks
  says_ranged site no_expression h = says_never
  says_ranged site (expression_and e es) h =
      so (λ w. both_lie w.0.0 (both_lie w.0.1 w.1))
      (says_both (written_said site None e es h (on_ranged site e)) (more_ranged site es h.2))

  more_lefts : (row : Row) (site k : ℕ) (es : Expressions) → EachSays es
      → Says n (AllStandWithin n (lefts_marks row site k es)) (SpellsMore text place es)
  unfolding SpellsMore lefts_marks
  more_lefts row site k no_expression h = says_nothing none_lie
  more_lefts row site k (expression_and e es) h =
      behind (keeps_token _)
      (so (λ w. both_lie w.0.0 (both_lie w.0.1 w.1))
      (says_both (written_said site (Some record { left_side = k; row = row }) e es h (on_left row site k e))
      (more_lefts row site (k + 1) es h.2)))

  pub says_lefts : (row : Row) (site k : ℕ) (es : Expressions) → EachSays es
      → Says n (AllStandWithin n (lefts_marks row site k es)) (SpellsExpressions text place es)
  unfolding SpellsExpressions lefts_marks
  says_lefts row site k no_expression h = says_never
  says_lefts row site k (expression_and e es) h =
      so (λ w. both_lie w.0.0 (both_lie w.0.1 w.1))
      (says_both (written_said site (Some record { left_side = k; row = row }) e es h (on_left row site k e))
      (more_lefts row site (k + 1) es h.2))

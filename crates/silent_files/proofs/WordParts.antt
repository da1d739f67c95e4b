-- Names that stand for a part: where the marks of an expression have their names among the words of a text, so has the
-- mention that is told in their place. And the small rules of the grammar.
use Rattle.std.proofs.Common.{◌≡◌, ℕ, ◌+◌, inl, inr, Bool, true, false, not, List, [], ◌∷◌, ◌++◌, Contains, Option, Some, None, refl, sym, subst}
use Rattle.std.proofs.lemmas.List.Elements.{Contains-append_left, Contains-append_right, Contains-append_cases}
use Rattle.std.specs.Prelude.{◌-◌, ◌&&◌, if◌then◌else◌, is_some, option_map, codes}
use Rattle.std.specs.Str.{bytes_eq}
use Rattle.tree.specs.declared.edition.Edition.{Edition}
use Rattle.tree.specs.declared.edition.Edition.TheVariants.{First, Second}
use Rattle.tree.specs.declared.span.Span.{Span}
use Rattle.tree.specs.declared.operator.BinaryOperator.{BinaryOperator}
use Rattle.tree.specs.declared.operator.BinaryOperator.TheVariants.{Add, Subtract, Or, Xor, Multiply, Divide, Remainder, ShiftLeft, ShiftRight, And, AndNot}
use Rattle.tree.specs.declared.operator.ChanDirection.{ChanDirection}
use Rattle.tree.specs.declared.operator.ChanDirection.TheVariants.{Both, Send, Receive}
use Rattle.tree.specs.declared.operator.UnaryOperator.{UnaryOperator}
use Rattle.tree.specs.declared.operator.UnaryOperator.TheVariants.{Address}
use Rattle.tree.specs.Syntax.{Identifier, TypeName, Expression, expression_node, name_expression, composite_literal, parenthesized, selector_expression, index_expression, instance_expression, call_expression, star_expression, unary_expression, binary_expression, array_type, ExpressionForm, Parameters, no_parameter, named_and, unnamed_and, name_alone_and, Expressions, no_expression, expression_and, OptionalExpression, missing_expression, present_expression, OptionalStatement, missing_statement, present_statement, statement_node, send_statement, define_statement, if_statement, Statements, statement_and}
use Rattle.meaning.specs.Scopes.{is_blank, first_of, bare_names, named_in_type}
use Rattle.meaning.specs.Mentions.{Named, as_bare, as_named, without_brackets, as_bracketed, as_pointer, as_new_literal, select_from, embedded, Standing, ordinary, first_of_for, communication, Row, CallPlace, nowhere, as_statement, only_value, return_item, deferred, under_go, place_in, Call, call_of, is_one, is_none_left, LiteralUse, other_use, deferred_call, call_under_go, started_by, Role, elsewhere, as_key, exposed, pointed_to, found_nil, found_error, called_in_brackets, argument, left, new_literal, parameter_pointer, BodyPlace, FieldLeft, Assigned, Taker, no_taker, called_function, appending, method, some_taker, writes_field, at_return, in_goroutine, Mark, of_fields, runs_literal, opens, closes, in_body, Spot, part_of, whole, field_left, written, field_written, field_called, given_to, literal_given_to, receiver_given, all_given_to, appended, right_given, rights_given, sent, renewed, communication_given, guard_renewed, callee_spot, argument_spot, argument_taker, mention, name_role, named_or, bare_within, addressed_within, exposed_or, NilTest, nil_test, nil_where, nil_marks, has_both, compares, error_where, error_marks, guard_marks, behind_row, callee_or, declaring, number_of, addressed, argument_or, argument_at, new_literal_or, deferral, parameter_type_or, left_names, declared_elsewhere, guard_in_clause, expression_marks, form_marks, expressions_marks, arguments_marks, items_marks, lefts_marks, ranged_marks, statement_marks, statement_form_marks, statements_marks, optional_statement_marks}
use Rattle.meaning.specs.Cursor.{read_in, Rule, ◌⨾◌, identifier}
use Rattle.meaning.specs.OperatorTokens.{assign_operator}
use Rattle.meaning.specs.Grammar.{Position, as_type, as_expression, as_value, as_element, as_constraint, parameters_stand, length_stands, no_type_parameters, type_parameters, after_type_name, end_of_selector, end_of_name, after_instance, end_of_type, channel, arguments, perhaps, elements, third_bound, guard_name, initial, range_left, case_head, communication_head, optional_tag, before_item, after_items, qualifier, type_name, SpellsExpression, SpellsExpressions, SpellsMore}
use Rattle.meaning.proofs.Membership.{contains_nil, contains_here, contains_there}
use Rattle.meaning_reports.proofs.ImportsOf.{only_one}
use Rattle.silent_files.specs.NamedWords.{Lexed, IsBound, AreWords, AreWordsIf, CallHasWords, FormHasWords, RowHasWords, PlaceIsBound, RoleHasWords, FieldHasWords, HasWords}
use Rattle.meaning.specs.Tracked.{call_in, only_call}
use Rattle.silent_files.proofs.WordRules.{Says, Keeps, AllHaveWords, none_left, one_more, one_has, both_have, IsName, AreNames, says_nothing, keeps_nothing, says_never, keeps_not_before, keeps_token, says_both, behind, ending, says_one, so, given, spanned, keeps_optional, enclosed, keeps_only_if, keeps_string, keeps_semicolon, says_identifier, both, moved, no_marks}

-- it is a word, if it is there
abbrev pub IsNameIf : Lexed → Option Identifier → Type 0
IsNameIf source None = Unit {0}
IsNameIf source (Some name) = IsName source name

-- what each of the tests names are words
abbrev FoundHave : Lexed → List NilTest → Type 0
FoundHave source ts = (t : NilTest) → Contains ts t → AreWords source t.named

selected_there : (source : Lexed) (o : Option Named) (m : Identifier) → IsName source m → AreWordsIf source o
    → AreWordsIf source (select_from o m)
selected_there source None m s h = tt
selected_there source (Some x) m s h = record { name = h.name; selected = (m.span.start, s) }

before_others : (source : Lexed) (ms ns : List Mark) → AllHaveWords source (ms ++ ns) → AllHaveWords source ms
before_others source ms ns h = record { each = λ m among. h.each m (Contains-append_left ms ns m among) }

behind_others : (source : Lexed) (ms ns : List Mark) → AllHaveWords source (ms ++ ns) → AllHaveWords source ns
behind_others source ms ns h = record { each = λ m among. h.each m (Contains-append_right ms ns m among) }

pub both_names : (source : Lexed) (ms ns : List Identifier) → AreNames source ms → AreNames source ns
    → AreNames source (ms ++ ns)
both_names source [] ns h k = k
both_names source (m ∷ ms) ns h k = (h.0, both_names source ms ns h.1 k)

pub role_of_name : (source : Lexed) (place : CallPlace) → RoleHasWords source (name_role place)
role_of_name source nowhere = tt
role_of_name source as_statement = tt
role_of_name source (only_value row) = tt
role_of_name source (return_item k) = tt
role_of_name source deferred = tt
role_of_name source under_go = tt

pub statement_place : (source : Lexed) (standing : Standing) → PlaceIsBound source (place_in standing as_statement)
statement_place source ordinary = tt
statement_place source first_of_for = tt
statement_place source communication = tt

pub value_place : (source : Lexed) (row : Row) → IsBound source row.statement
    → PlaceIsBound source (if is_one row.values then place_in row.standing (only_value row) else nowhere)
value_place source row low = by (is_one row.values) (of row.standing)
  where
    of : (standing : Standing) → PlaceIsBound source (place_in standing (only_value row))
    of ordinary = low
    of first_of_for = low
    of communication = tt

    by : (b : Bool) → PlaceIsBound source (place_in row.standing (only_value row))
        → PlaceIsBound source (if b then place_in row.standing (only_value row) else nowhere)
    by true h = h
    by false h = tt

module _ {source : Lexed} where
  first_mention : (m : Mark) (ms : List Mark) → AllHaveWords source (m ∷ ms) → HasWords source m
  first_mention m ms h = h.each m (contains_here m ms)

  -- the names that expressions are

  pub bare_there : (spot : Spot) (e : Expression) → AllHaveWords source (expression_marks spot e) → AreWordsIf source (as_bare e)
  unfolding expression_marks form_marks
  bare_there spot (expression_node (name_expression name) span) h = (first_mention _ [] h).0
  bare_there spot _ h = tt

  pub named_mention : (o : Option Named) (site : ℕ) (role : Role) (ms : List Mark) → AllHaveWords source (named_or o site role ms) → AreWordsIf source o
  named_mention None site role ms h = tt
  named_mention (Some x) site role ms h = (first_mention _ [] h).0

  pub name_there : (spot : Spot) (e : Expression) → AllHaveWords source (expression_marks spot e) → AreWordsIf source (as_named e)
  unfolding expression_marks form_marks
  name_there spot (expression_node (name_expression name) span) h = (first_mention _ [] h).0
  name_there spot (expression_node (selector_expression e m) span) h =
      named_mention (select_from (as_bare e) m) spot.site elsewhere (expression_marks (part_of spot.site) e) h
  name_there spot _ h = tt

  -- in brackets of any number
  without_there : (spot : Spot) (e : Expression) → AllHaveWords source (expression_marks spot e) → AreWordsIf source (as_named (without_brackets e))
  unfolding expression_marks form_marks
  without_there spot (expression_node (parenthesized e) span) h = without_there (part_of spot.site) e h
  without_there spot (expression_node (name_expression name) span) h =
      name_there spot (expression_node (name_expression name) span) h
  without_there spot (expression_node (selector_expression e m) span) h =
      name_there spot (expression_node (selector_expression e m) span) h
  without_there spot _ h = tt

  bracketed_there : (spot : Spot) (e : Expression) → AllHaveWords source (expression_marks spot e) → AreWordsIf source (as_bracketed e)
  unfolding expression_marks form_marks
  bracketed_there spot (expression_node (parenthesized e) span) h = without_there (part_of spot.site) e h
  bracketed_there spot _ h = tt

  pub pointer_there : (spot : Spot) (e : Expression) → AllHaveWords source (expression_marks spot e) → AreWordsIf source (as_pointer e)
  unfolding expression_marks form_marks
  pointer_there spot (expression_node (star_expression e) span) h = name_there (part_of spot.site) e h
  pointer_there spot _ h = tt

  literal_there : (spot : Spot) (e : Expression) → AllHaveWords source (expression_marks spot e) → AreWordsIf source (as_new_literal Address e)
  unfolding expression_marks form_marks
  literal_there spot (expression_node (composite_literal t no_expression) span) h =
      name_there (part_of spot.site) t (before_others source _ _ h)
  literal_there spot _ h = tt

  pub new_there : (spot : Spot) (op : UnaryOperator) (e : Expression) → AllHaveWords source (expression_marks spot e)
      → AreWordsIf source (as_new_literal op e)
  new_there spot Address e h = literal_there spot e h
  new_there spot _ e h = tt

  -- a bare name, in brackets of any number
  pub within_there : (spot : Spot) (e : Expression) → AllHaveWords source (expression_marks spot e) → AreWordsIf source (bare_within e)
  unfolding expression_marks form_marks
  within_there spot (expression_node (parenthesized e) span) h = within_there (part_of spot.site) e h
  within_there spot (expression_node (name_expression name) span) h = (first_mention _ [] h).0
  within_there spot _ h = tt

  addressed_within_there : (spot : Spot) (op : UnaryOperator) (e : Expression) → AllHaveWords source (expression_marks spot e)
      → AreWordsIf source (addressed_within op e)
  addressed_within_there spot Address e h = within_there spot e h
  addressed_within_there spot _ e h = tt

  addressed_there : (site : ℕ) (op : UnaryOperator) (e : Expression) (ms : List Mark)
      → AllHaveWords source (named_or (addressed_within op e) site pointed_to ms)
      → AreWordsIf source (addressed op e)
  addressed_there site Address (expression_node (name_expression name) span) ms h = (first_mention _ [] h).0
  addressed_there site Address _ ms h = tt
  addressed_there site _ e ms h = tt

  -- mentions in place of a part's own marks

  pub in_place : (o : Option Named) (site : ℕ) (role : Role) {ms : List Mark} → AreWordsIf source o → RoleHasWords source role → AllHaveWords source ms
      → AllHaveWords source (named_or o site role ms)
  in_place None site role low lies h = h
  in_place (Some x) site role low lies h = one_has (mention site role x) (low, lies)

  pub exposed_has : (site : ℕ) (e : Expression) → AllHaveWords source (expression_marks (part_of site) e)
      → AllHaveWords source (exposed_or site e (expression_marks (part_of site) e))
  exposed_has site e h = in_place (bare_within e) site exposed (within_there (part_of site) e h) tt h

  pub key_has : (site : ℕ) (e : Expression) → AllHaveWords source (expression_marks (part_of site) e)
      → AllHaveWords source (named_or (as_bare e) site as_key (expression_marks (part_of site) e))
  key_has site e h = in_place (as_bare e) site as_key (bare_there (part_of site) e h) tt h

  pub addressed_has : (site : ℕ) (op : UnaryOperator) (e : Expression) → AllHaveWords source (expression_marks (part_of site) e)
      → AllHaveWords source (named_or (addressed_within op e) site pointed_to (expression_marks (part_of site) e))
  addressed_has site op e h =
      in_place (addressed_within op e) site pointed_to (addressed_within_there (part_of site) op e h) tt h

  pub selected : (spot : Spot) (e : Expression) (m : Identifier) → AllHaveWords source (expression_marks (part_of spot.site) e)
      → IsName source m
      → AllHaveWords source (named_or (select_from (as_bare e) m) spot.site elsewhere (expression_marks (part_of spot.site) e))
  selected spot e m h s =
      in_place (select_from (as_bare e) m) spot.site elsewhere
      (selected_there source (as_bare e) m s (bare_there (part_of spot.site) e h)) tt h

  pub callee_by : (site : ℕ) (place : CallPlace) (spot : Spot) (e : Expression) (es : Expressions) (ellipsis : Bool)
      → PlaceIsBound source place
      → AllHaveWords source (expression_marks spot e)
      → AllHaveWords source (callee_or (call_of place e es ellipsis) site e (expression_marks spot e))
  callee_by site place spot e es ellipsis lies h = by (as_named e) (name_there spot e h)
    where
      by : (o : Option Named) → AreWordsIf source o
          → AllHaveWords source (callee_or (option_map (λ x. record { callee = x; arguments = es; has_ellipsis = ellipsis; place = place }) o) site e (expression_marks spot e))
      by None low = in_place (as_bracketed e) site called_in_brackets (bracketed_there spot e h) tt h
      by (Some x) low = one_has _ (low, lies)

  pub either : (b : Bool) {ms ns : List Mark} → AllHaveWords source ms → AllHaveWords source ns → AllHaveWords source (if b then ms else ns)
  either true h k = h
  either false h k = k

  argued : (c : Call) (site k : ℕ) (spot : Spot) (e : Expression) → spot.place ≡ nowhere → AllHaveWords source (expression_marks spot e)
      → AllHaveWords source (argument_or c site k e (expression_marks spot e))
  unfolding expression_marks form_marks
  argued c site k spot (expression_node (unary_expression op e) span) is h =
      let operand = named_or (addressed_within op e) spot.site pointed_to (expression_marks (part_of spot.site) e) in
      let own = subst (λ (p : CallPlace). AllHaveWords source (new_literal_or p spot.site (as_new_literal op e) operand)) is h in
      in_place (addressed op e) site (argument k true c)
      (addressed_there spot.site op e (expression_marks (part_of spot.site) e) own) tt h
  argued c site k spot e is h = in_place (as_named e) site (argument k false c) (name_there spot e h) tt h

  pub argued_at : (c : Option Call) (site k : ℕ) (is_last : Bool) (spot : Spot) (e : Expression) → spot.place ≡ nowhere
      → AllHaveWords source (expression_marks spot e)
      → AllHaveWords source (argument_at c site k is_last e (expression_marks spot e))
  argued_at None site k is_last spot e is h = h
  argued_at (Some c) site k is_last spot e is h = either (is_last && c.has_ellipsis) h (argued c site k spot e is h)

  pub newly : (place : CallPlace) (site : ℕ) (o : Option Named) {ms : List Mark} → AreWordsIf source o → AllHaveWords source ms
      → AllHaveWords source (new_literal_or place site o ms)
  newly nowhere site o low h = h
  newly as_statement site o low h = h
  newly (only_value row) site o low h = in_place o site (new_literal row) low tt h
  newly (return_item k) site o low h = h
  newly deferred site o low h = h
  newly under_go site o low h = h

  pub typed : (is_plain : Bool) (spot : Spot) (t : Expression) (site : ℕ) → AllHaveWords source (expression_marks spot t)
      → AllHaveWords source (parameter_type_or is_plain t site (expression_marks spot t))
  typed is_plain spot t site h = either is_plain (in_place (as_pointer t) site parameter_pointer (pointer_there spot t h) tt h) h

  -- the call that is the only value of a row, by the marks of its values

  call_there : (row : Row) (spot : Spot) (e : Expression) → AllHaveWords source (expression_marks spot e)
      → CallHasWords source (call_in row e)
  unfolding expression_marks form_marks
  call_there row spot (expression_node (call_expression e es ellipsis) span) h =
      by (as_named e) (before_others source _ _ (behind_others source _ _ (behind_others source _ _ h)))
    where
      by : (o : Option Named)
          → AllHaveWords source (callee_or (option_map (λ x. record { callee = x; arguments = es; has_ellipsis = ellipsis; place = spot.place }) o) spot.site e
          (expression_marks (callee_spot spot) e))
          → CallHasWords source (option_map (λ x. record { callee = x; arguments = es; has_ellipsis = ellipsis; place = only_value row }) o)
      by None k = tt
      by (Some x) k = (first_mention _ [] k).0
  call_there row spot _ h = tt

  value_there : (row : Row) (spot : Spot) (es : Expressions) → AllHaveWords source (expressions_marks spot es)
      → CallHasWords source (only_call row es)
  unfolding expressions_marks
  value_there row spot no_expression h = tt
  value_there row spot (expression_and e no_expression) h = call_there row spot e (before_others source _ _ h)
  value_there row spot (expression_and e (expression_and f es)) h = tt

  pub row_has : (row : Row) (spot : Spot) → AllHaveWords source (expressions_marks spot row.values)
      → FormHasWords source row.form
      → RowHasWords source row
  row_has row spot h s = (value_there row spot row.values h, s)

  -- names that are declared

  declared_has : (site : ℕ) (role : Role) (name : Identifier) (number : Option ℕ) → IsName source name
      → RoleHasWords source role
      → HasWords source (declaring site role name number)
  declared_has site role name number h s = (record { name = h; selected = tt }, s)

  pub names_have : (row : Row) (site k : ℕ) (names : List Identifier) → RowHasWords source row → AreNames source names
      → AllHaveWords source (left_names row site k names)
  names_have row site k [] r h = none_left
  names_have row site k (name ∷ names) r h =
      one_more _ _ (declared_has site (left k row) name (number_of name) h.0 r) (names_have row site (k + 1) names r h.1)

  pub elsewhere_have : (site : ℕ) (names : List Identifier) → AreNames source names → AllHaveWords source (declared_elsewhere site names)
  elsewhere_have site [] h = none_left
  elsewhere_have site (name ∷ names) h =
      one_more _ _ (declared_has site exposed name (number_of name) h.0 tt) (elsewhere_have site names h.1)

  -- fields, and what is given, have the words of rows alone

  pub written_has : (site : ℕ) (by : Option Assigned) (o : Option FieldLeft)
      → ((l : FieldLeft) → FieldHasWords source (writes_field l by))
      → AllHaveWords source (written site by o)
  written_has site by None h = none_left
  written_has site by (Some l) h = one_has (of_fields site (writes_field l by)) (h l)

  pub unread_has : (site : ℕ) (e : Expression) → AllHaveWords source (field_written site None e)
  unread_has site e = written_has site None (field_left e) (λ l. tt)

  pub stored_has : (site k : ℕ) (row : Row) (e : Expression) → RowHasWords source row
      → AllHaveWords source (field_written site (Some record { left_side = k; row = row }) e)
  stored_has site k row e h =
      written_has site (Some record { left_side = k; row = row }) (field_left e) (λ l. h)

  pub given_has : (site : ℕ) (taker : Taker) (e : Expression) → AllHaveWords source (given_to site taker e)
  given_has site no_taker e = none_left
  given_has site (called_function n) e = one_has _ tt
  given_has site (appending n) e = one_has _ tt
  given_has site (method m) e = one_has _ tt
  given_has site some_taker e = one_has _ tt

  pub literal_given_has : (site : ℕ) (taker : Taker) (at : ℕ) → AllHaveWords source (literal_given_to site taker at)
  literal_given_has site no_taker at = none_left
  literal_given_has site (called_function n) at = one_has _ tt
  literal_given_has site (appending n) at = one_has _ tt
  literal_given_has site (method m) at = one_has _ tt
  literal_given_has site some_taker at = one_has _ tt

  selected_given : (site : ℕ) (place : CallPlace) (e : Expression) (m : Identifier) (span : Span)
      → AllHaveWords source (receiver_given place site (expression_node (selector_expression e m) span))
  selected_given site nowhere e m span = none_left
  selected_given site as_statement e m span = none_left
  selected_given site (only_value row) e m span = none_left
  selected_given site (return_item k) e m span = none_left
  selected_given site deferred e m span = given_has site (method m.text) e
  selected_given site under_go e m span = given_has site (method m.text) e

  pub receiver_has : (place : CallPlace) (site : ℕ) (e : Expression) → AllHaveWords source (receiver_given place site e)
  receiver_has place site (expression_node (selector_expression e m) span) = selected_given site place e m span
  receiver_has nowhere site _ = none_left
  receiver_has as_statement site _ = none_left
  receiver_has (only_value row) site _ = none_left
  receiver_has (return_item k) site _ = none_left
  receiver_has deferred site _ = none_left
  receiver_has under_go site _ = none_left

  pub called_has : (site : ℕ) (e : Expression) → AllHaveWords source (field_called site e)
  called_has site (expression_node (selector_expression e m) span) = one_has _ tt
  called_has site _ = none_left

  all_given_has : (site : ℕ) (taker : Taker) (es : Expressions) → AllHaveWords source (all_given_to site taker es)
  all_given_has site taker no_expression = none_left
  all_given_has site taker (expression_and e es) = both_have (given_has site taker e) (all_given_has site taker es)

  appended_has : (site : ℕ) (o : Option Named) (es : Expressions) → AllHaveWords source (appended site o es)
  appended_has site None es = none_left
  appended_has site (Some n) es =
      either (bytes_eq n.name (codes "append")) (all_given_has site (appending n) es) none_left

  right_has : (site : ℕ) (is_only : Bool) (e : Expression) → AllHaveWords source (right_given site is_only e)
  right_has site is_only (expression_node (call_expression f es ellipsis) span) =
      either is_only none_left (appended_has site (as_bare f) es)
  right_has site is_only _ = one_has _ tt

  pub rights_have : (site : ℕ) (is_only : Bool) (ls rs : Expressions)
      → AllHaveWords source (rights_given site is_only ls rs)
  rights_have site is_only no_expression rs = none_left
  rights_have site is_only (expression_and l ls) no_expression = none_left
  rights_have site is_only (expression_and l ls) (expression_and r rs) =
      both_have (either (is_some (bare_within l)) none_left (right_has site is_only r)) (rights_have site is_only ls rs)

  pub sent_has : (standing : Standing) (at : ℕ) (v : Expression) → AllHaveWords source (sent standing at v)
  sent_has ordinary at v = one_has _ tt
  sent_has first_of_for at v = one_has _ tt
  sent_has communication at v = none_left

  renewed_have : (site : ℕ) (ns : List Identifier) → AllHaveWords source (renewed site ns)
  renewed_have site [] = none_left
  renewed_have site (n ∷ ns) = one_more _ _ tt (renewed_have site ns)

  pub communication_has : (clause : ℕ) (s : OptionalStatement) → AllHaveWords source (communication_given clause s)
  communication_has clause missing_statement = none_left
  communication_has clause (present_statement (statement_node (send_statement c v) span)) = one_has _ tt
  communication_has clause (present_statement (statement_node (define_statement ns rs) span)) = renewed_have clause ns
  communication_has clause (present_statement (statement_node _ span)) = none_left

  pub guard_renewed_has : (guard : Option Identifier) (clause : Span) → AllHaveWords source (guard_renewed guard clause)
  guard_renewed_has None clause = none_left
  guard_renewed_has (Some n) clause = one_has _ tt

  -- what a condition finds out names what stands in it

  tested : (o z : Option Named) → AreWordsIf source o → FoundHave source (nil_test o z)
  tested None z low = λ t h. absurd (contains_nil t h)
  tested (Some x) None low = λ t h. absurd (contains_nil t h)
  tested (Some x) (Some z) low = by (bytes_eq z.name (codes "nil"))
    where
      by : (b : Bool) → FoundHave source (if b then record { named = x; nil = z.at } ∷ [] else [])
      by true = λ t h. subst (λ (u : NilTest). AreWords source u.named) (only_one _ t h) low
      by false = λ t h. absurd (contains_nil t h)

  both_found : (xs ys : List NilTest) → FoundHave source xs → FoundHave source ys → FoundHave source (xs ++ ys)
  both_found xs ys h k = λ t among. elim (Contains-append_cases xs ys t among) [ inl r ↦ h t r | inr r ↦ k t r ]

  either_tested : (l r : Expression) (spot : Spot) → AllHaveWords source (expression_marks spot l)
      → AllHaveWords source (expression_marks spot r)
      → FoundHave source (nil_test (as_bare l) (as_bare r) ++ nil_test (as_bare r) (as_bare l))
  either_tested l r spot h k =
      both_found (nil_test (as_bare l) (as_bare r)) (nil_test (as_bare r) (as_bare l))
      (tested (as_bare l) (as_bare r) (bare_there spot l h)) (tested (as_bare r) (as_bare l) (bare_there spot r k))

  if_tested : (is_test : Bool) (ts : List NilTest) → FoundHave source ts → FoundHave source (if is_test then ts else [])
  if_tested true ts h = h
  if_tested false ts h = λ t among. absurd (contains_nil t among)

  nil_have : (spot : Spot) (outcome : Bool) (e : Expression) → AllHaveWords source (expression_marks spot e)
      → FoundHave source (nil_where outcome e)
  unfolding expression_marks form_marks
  nil_have spot outcome (expression_node (binary_expression op l r) span) h =
      let first = before_others source (expression_marks (part_of spot.site) l) (expression_marks (part_of spot.site) r) h in
      let second = behind_others source (expression_marks (part_of spot.site) l) (expression_marks (part_of spot.site) r) h in
      by (has_both outcome op) (nil_have (part_of spot.site) outcome l first) (nil_have (part_of spot.site) outcome r second)
      (if_tested (compares outcome op) _ (either_tested l r (part_of spot.site) first second))
    where
      by : (b : Bool) → FoundHave source (nil_where outcome l) → FoundHave source (nil_where outcome r)
          → FoundHave source (if compares outcome op then nil_test (as_bare l) (as_bare r) ++ nil_test (as_bare r) (as_bare l) else [])
          → FoundHave source (if b then nil_where outcome l ++ nil_where outcome r
          else if compares outcome op then nil_test (as_bare l) (as_bare r) ++ nil_test (as_bare r) (as_bare l) else [])
      by true h k test = both_found (nil_where outcome l) (nil_where outcome r) h k
      by false h k test = test
  nil_have spot outcome _ h = λ t among. absurd (contains_nil t among)

  error_have : (spot : Spot) (outcome : Bool) (e : Expression) → AllHaveWords source (expression_marks spot e)
      → FoundHave source (error_where outcome e)
  unfolding expression_marks form_marks
  error_have spot outcome (expression_node (binary_expression op l r) span) h =
      if_tested (compares (not outcome) op) _
      (either_tested l r (part_of spot.site)
      (before_others source (expression_marks (part_of spot.site) l) (expression_marks (part_of spot.site) r) h)
      (behind_others source (expression_marks (part_of spot.site) l) (expression_marks (part_of spot.site) r) h))
  error_have spot outcome _ h = λ t among. absurd (contains_nil t among)

  nil_marked : (site : ℕ) (ts : List NilTest) → FoundHave source ts → AllHaveWords source (nil_marks site ts)
  nil_marked site [] h = none_left
  nil_marked site (t ∷ ts) h =
      one_more (mention site (found_nil t.nil) t.named) _ (h t (contains_here t ts), tt)
      (nil_marked site ts λ u among. h u (contains_there t u ts among))

  error_marked : (site : ℕ) (row : Row) (ts : List NilTest) → FoundHave source ts → AllHaveWords source (error_marks site row ts)
  error_marked site row [] h = none_left
  error_marked site row (t ∷ ts) h =
      one_more (mention site (found_error t.nil row) t.named) _ (h t (contains_here t ts), tt)
      (error_marked site row ts λ u among. h u (contains_there t u ts among))

  pub nil_has : (site brace : ℕ) (outcome : Bool) (c : Expression) → AllHaveWords source (expression_marks (part_of site) c)
      → AllHaveWords source (nil_marks brace (nil_where outcome c))
  nil_has site brace outcome c h = nil_marked brace _ (nil_have (part_of site) outcome c h)

  pub found_has : (site : ℕ) (row : Option Row) (c : Expression) (braces : Span)
      → AllHaveWords source (expression_marks (part_of site) c)
      → AllHaveWords source (guard_marks row c braces)
  found_has site None c braces h = none_left
  found_has site (Some row) c braces h =
      both_have (error_marked braces.start row _ (error_have (part_of site) true c h))
      (error_marked (braces.end - 1) row _ (error_have (part_of site) false c h))

  -- the condition of an `if` stands among the marks of the statements that begin with it
  pub behind_has : (row : Option Row) (ss : Statements) → AllHaveWords source (statements_marks ss)
      → AllHaveWords source (behind_row row ss)
  unfolding statements_marks statement_marks statement_form_marks optional_statement_marks
  behind_has row (statement_and (statement_node (if_statement missing_statement semicolon c ss braces other) span) rest) h =
      found_has span.start row c braces (before_others source _ _ (before_others source _ _ h))
  behind_has row _ h = none_left

  -- the names that a receiver's type declares

  with_bare : (spot : Spot) (e : Expression) (es : Expressions) → AllHaveWords source (expression_marks spot e)
      → AreNames source (bare_names es)
      → AreNames source (bare_names (expression_and e es))
  unfolding expression_marks form_marks
  with_bare spot (expression_node (name_expression name) span) es h k = ((first_mention _ [] h).0.name, k)
  with_bare spot _ es h k = k

  bare_have : (spot : Spot) (es : Expressions) → AllHaveWords source (expressions_marks spot es)
      → AreNames source (bare_names es)
  unfolding expressions_marks
  bare_have spot no_expression h = tt
  bare_have spot (expression_and e es) h =
      with_bare spot e es (before_others source (expression_marks spot e) (expressions_marks spot es) h)
      (bare_have spot es (behind_others source (expression_marks spot e) (expressions_marks spot es) h))

  pub type_names_have : (spot : Spot) (t : Expression) → AllHaveWords source (expression_marks spot t)
      → AreNames source (named_in_type t)
  unfolding expression_marks form_marks
  type_names_have spot (expression_node (parenthesized t) span) h = type_names_have (part_of spot.site) t h
  type_names_have spot (expression_node (star_expression t) span) h = type_names_have (part_of spot.site) t h
  type_names_have spot (expression_node (index_expression t p) span) h =
      with_bare (part_of spot.site) p no_expression (behind_others source (expression_marks (part_of spot.site) t) _ h) tt
  type_names_have spot (expression_node (instance_expression t ps) span) h =
      bare_have (part_of spot.site) ps (behind_others source (expression_marks (part_of spot.site) t) _ h)
  type_names_have spot _ h = tt

  pub guard_has : (site : ℕ) (name : Option Identifier) (clause : Span) → IsNameIf source name → AllHaveWords source (guard_in_clause site name clause)
  guard_has site None clause h = none_left
  guard_has site (Some name) clause h =
      either (is_blank name.text) none_left (one_has _ (declared_has site exposed name (Some clause.start) h tt))

  pub deferral_has : (used : LiteralUse) (site at : ℕ) → AllHaveWords source (deferral used site at)
  deferral_has other_use site at = none_left
  deferral_has deferred_call site at = one_has (runs_literal at_return site at) tt
  deferral_has call_under_go site at = one_has (runs_literal in_goroutine site at) tt
  deferral_has (started_by x) site at = none_left

  pub body_has : (b : BodyPlace) {ms : List Mark} → HasWords source (opens b) → AllHaveWords source ms → AllHaveWords source (in_body b ms)
  body_has b {ms} own h = one_more (opens b) (ms ++ closes ∷ []) own (both_have h (one_has closes tt))

-- Small rules

module _ {source : Lexed} where
  pub keeps_end_of_selector : (edition : Edition) (place : Position) → Keeps source (end_of_selector edition place)
  keeps_end_of_selector edition as_type = keeps_not_before _
  keeps_end_of_selector edition as_expression = keeps_nothing
  keeps_end_of_selector edition as_value = keeps_nothing
  keeps_end_of_selector edition as_element = keeps_nothing
  keeps_end_of_selector edition as_constraint = keeps_nothing

  pub keeps_end_of_name : (edition : Edition) (place : Position) → Keeps source (end_of_name edition place)
  keeps_end_of_name edition as_type = behind (keeps_not_before _) (keeps_not_before _)
  keeps_end_of_name edition as_expression = keeps_nothing
  keeps_end_of_name edition as_value = keeps_nothing
  keeps_end_of_name edition as_element = keeps_nothing
  keeps_end_of_name edition as_constraint = keeps_nothing

  -- type parameters, and what tells that they stand there

  keeps_stand : (stand : Bool) → Keeps source (parameters_stand stand)
  keeps_stand stand from to k s = keeps_nothing from to k s.0

  keeps_length : (form : ExpressionForm) → Keeps source (length_stands form)
  keeps_length (array_type n t) = given (keeps_stand false)
  keeps_length _ = keeps_nothing

  keeps_no_parameters : (edition : Edition) (is_alias : Bool) (t : Expression)
      → Keeps source (no_type_parameters edition is_alias t)
  keeps_no_parameters Second false (expression_node form span) = keeps_length form
  keeps_no_parameters Second true t = keeps_nothing
  keeps_no_parameters First is_alias t = keeps_nothing

  module _ {fact : Type 0} {list : Rule} where
    pub says_type_parameters : (allowed : Type 0) (ps : Parameters) → (ps ≡ no_parameter → fact) → Says source fact list
        → Says source fact (type_parameters allowed ps list)
    says_type_parameters allowed no_parameter q h = says_nothing (q refl)
    says_type_parameters allowed (named_and n ellipsis t ps) q h = given (given (enclosed _ _ h))
    says_type_parameters allowed (unnamed_and ellipsis t ps) q h = given (given (enclosed _ _ h))
    says_type_parameters allowed (name_alone_and n ps) q h = given (given (enclosed _ _ h))

    pub says_after_type_name : (edition : Edition) (ps : Parameters) (is_alias : Bool) (t : Expression)
        → (ps ≡ no_parameter → fact)
        → Says source fact list
        → Says source fact (after_type_name edition ps is_alias t list)
    says_after_type_name edition no_parameter is_alias t q h = so (λ w. q refl) (keeps_no_parameters edition is_alias t)
    says_after_type_name edition (named_and n ellipsis u ps) is_alias t q h =
        behind (says_one (keeps_stand true) (given (keeps_stand false))) (given (given (enclosed _ _ h)))
    says_after_type_name edition (unnamed_and ellipsis u ps) is_alias t q h =
        behind (says_one (keeps_stand true) (given (keeps_stand false))) (given (given (enclosed _ _ h)))
    says_after_type_name edition (name_alone_and n ps) is_alias t q h =
        behind (says_one (keeps_stand true) (given (keeps_stand false))) (given (given (enclosed _ _ h)))

  pub keeps_after_instance : (es : Expressions) → Keeps source (after_instance es)
  keeps_after_instance no_expression = keeps_optional (keeps_token _)
  keeps_after_instance (expression_and e no_expression) = keeps_token _
  keeps_after_instance (expression_and e (expression_and f es)) = keeps_optional (keeps_token _)

  pub keeps_end_of_type : (place : Position) → Keeps source (end_of_type place)
  keeps_end_of_type as_type = keeps_nothing
  keeps_end_of_type as_expression = keeps_not_before _
  keeps_end_of_type as_value = keeps_not_before _
  keeps_end_of_type as_element = keeps_not_before _
  keeps_end_of_type as_constraint = keeps_not_before _

  pub keeps_channel : (place : Position) (direction : ChanDirection) → Keeps source (channel place direction)
  keeps_channel place Both = behind (keeps_token _) (keeps_not_before _)
  keeps_channel place Send = behind (keeps_token _) (keeps_token _)
  keeps_channel as_type Receive = behind (keeps_token _) (keeps_token _)
  keeps_channel place Receive = says_never

  pub keeps_assign_operator : (op : BinaryOperator) → Keeps source (assign_operator op)
  keeps_assign_operator Add = keeps_token _
  keeps_assign_operator Subtract = keeps_token _
  keeps_assign_operator Or = keeps_token _
  keeps_assign_operator Xor = keeps_token _
  keeps_assign_operator Multiply = keeps_token _
  keeps_assign_operator Divide = keeps_token _
  keeps_assign_operator Remainder = keeps_token _
  keeps_assign_operator ShiftLeft = keeps_token _
  keeps_assign_operator ShiftRight = keeps_token _
  keeps_assign_operator And = keeps_token _
  keeps_assign_operator AndNot = keeps_token _
  keeps_assign_operator op = says_never

  pub keeps_tag : (tag : Option Span) → Keeps source (optional_tag tag)
  keeps_tag None = keeps_nothing
  keeps_tag (Some span) = spanned keeps_string

  pub keeps_before_item : (first : Bool) → Keeps source (before_item first)
  keeps_before_item true = keeps_nothing
  keeps_before_item false = keeps_token _

  pub keeps_after_items : (first : Bool) → Keeps source (after_items first)
  keeps_after_items true = keeps_nothing
  keeps_after_items false = keeps_optional (keeps_token _)

  -- the name of an embedded type
  by_qualifier : (edition : Edition) (o : Option Identifier) (name : Identifier)
      → Says source (AreWords source record {
        name = (first_of o name).text;
        at = (first_of o name).span.start;
        selected = option_map (λ q. name.text) o;
      }) (qualifier (read_in edition source.text) o ⨾ identifier (read_in edition source.text) name)
  by_qualifier edition None name =
      behind keeps_nothing (so (λ w. record { name = w; selected = tt }) (says_identifier edition name))
  by_qualifier edition (Some q) name =
      so (λ w. record { name = w.0; selected = (name.span.start, w.1) })
      (says_both (ending (says_identifier edition q) (keeps_token _)) (says_identifier edition name))

  pub says_type_name : (edition : Edition) (t : TypeName)
      → Says source (AreWords source (embedded t)) (type_name (read_in edition source.text) t)
  says_type_name edition t = spanned (by_qualifier edition t.qualifier t.name)

  pub says_guard_name : (edition : Edition) (o : Option Identifier)
      → Says source (IsNameIf source o) (guard_name (read_in edition source.text) o)
  says_guard_name edition None = says_nothing tt
  says_guard_name edition (Some name) = ending (says_identifier edition name) (keeps_token _)

  -- lists that may be empty, and have no marks then

  module _ (es : Expressions) (f : Expressions → List Mark) {list : Rule} where
    pub says_arguments : (ellipsis : Bool) → f no_expression ≡ [] → Says source (AllHaveWords source (f es)) list
        → Says source (AllHaveWords source (f es)) (arguments es ellipsis list)
    says_arguments ellipsis e h = by es ellipsis h
      where
        by : (es : Expressions) (ellipsis : Bool) → Says source (AllHaveWords source (f es)) list → Says source (AllHaveWords source (f es)) (arguments es ellipsis list)
        by no_expression true h = says_never
        by no_expression false h = moved (sym e) (says_nothing none_left)
        by (expression_and e es) ellipsis h =
            ending h (behind (keeps_only_if ellipsis (keeps_token _)) (keeps_optional (keeps_token _)))

    pub says_perhaps : f no_expression ≡ [] → Says source (AllHaveWords source (f es)) list → Says source (AllHaveWords source (f es)) (perhaps es list)
    says_perhaps e h = by es h
      where
        by : (es : Expressions) → Says source (AllHaveWords source (f es)) list → Says source (AllHaveWords source (f es)) (perhaps es list)
        by no_expression h = moved (sym e) (says_nothing none_left)
        by (expression_and e es) h = h

    pub says_elements : f no_expression ≡ [] → Says source (AllHaveWords source (f es)) list → Says source (AllHaveWords source (f es)) (elements es list)
    says_elements e h = by es h
      where
        by : (es : Expressions) → Says source (AllHaveWords source (f es)) list → Says source (AllHaveWords source (f es)) (elements es list)
        by no_expression h = moved (sym e) (says_nothing none_left)
        by (expression_and e es) h = ending h (keeps_optional (keeps_token _))

    pub says_range_left : f no_expression ≡ [] → Says source (AllHaveWords source (f es)) list → Says source (AllHaveWords source (f es)) (range_left es list)
    says_range_left e h = by es h
      where
        by : (es : Expressions) → Says source (AllHaveWords source (f es)) list → Says source (AllHaveWords source (f es)) (range_left es list)
        by no_expression h = moved (sym e) (says_nothing none_left)
        by (expression_and e es) h = ending h (keeps_token _)

    pub says_case_head : f no_expression ≡ [] → Says source (AllHaveWords source (f es)) list → Says source (AllHaveWords source (f es)) (case_head es list)
    says_case_head e h = by es h
      where
        by : (es : Expressions) → Says source (AllHaveWords source (f es)) list → Says source (AllHaveWords source (f es)) (case_head es list)
        by no_expression h = moved (sym e) (no_marks (keeps_token _))
        by (expression_and e es) h = behind (keeps_token _) h

  pub says_third_bound : (e : OptionalExpression) {ms : List Mark} {bound : Rule}
      → (e ≡ missing_expression → ms ≡ [])
      → Says source (AllHaveWords source ms) bound
      → Says source (AllHaveWords source ms) (third_bound e bound)
  says_third_bound missing_expression q h = moved (sym (q refl)) (says_nothing none_left)
  says_third_bound (present_expression e) q h = behind (keeps_token _) h

  pub says_initial : (s : OptionalStatement) (has_semicolon : Bool) {ms : List Mark} {rule : Rule}
      → (s ≡ missing_statement → ms ≡ [])
      → Says source (AllHaveWords source ms) rule
      → Says source (AllHaveWords source ms) (initial s has_semicolon rule)
  says_initial missing_statement false q h = moved (sym (q refl)) (says_nothing none_left)
  says_initial missing_statement true q h = moved (sym (q refl)) (no_marks keeps_semicolon)
  says_initial (present_statement s) false q h = says_never
  says_initial (present_statement s) true q h = ending h keeps_semicolon

  pub says_communication : (s : OptionalStatement) {ms : List Mark} {rule : Rule}
      → (s ≡ missing_statement → ms ≡ [])
      → Says source (AllHaveWords source ms) rule
      → Says source (AllHaveWords source ms) (communication_head s rule)
  says_communication missing_statement q h = moved (sym (q refl)) (no_marks (keeps_token _))
  says_communication (present_statement s) q h = behind (keeps_token _) h

-- Lists of expressions of which each says where its names stand

module _ (source : Lexed) (edition : Edition) (place : Position) where
  abbrev pub EachSays : Expressions → Type 0
  EachSays no_expression = Unit {0}
  EachSays (expression_and e es) =
      ((spot : Spot) → PlaceIsBound source spot.place → Says source (AllHaveWords source (expression_marks spot e)) (SpellsExpression (read_in edition source.text) place e))
      × EachSays es

  more_expressions : (spot : Spot) (es : Expressions) → PlaceIsBound source spot.place → EachSays es
      → Says source (AllHaveWords source (expressions_marks spot es)) (SpellsMore (read_in edition source.text) place es)
  unfolding SpellsMore expressions_marks
  more_expressions spot no_expression low h = says_nothing none_left
  more_expressions spot (expression_and e es) low h =
      behind (keeps_token _) (both (h.0 spot low) (more_expressions spot es low h.1))

  pub says_expressions : (spot : Spot) (es : Expressions) → PlaceIsBound source spot.place → EachSays es
      → Says source (AllHaveWords source (expressions_marks spot es)) (SpellsExpressions (read_in edition source.text) place es)
  unfolding SpellsExpressions expressions_marks
  says_expressions spot no_expression low h = says_never
  says_expressions spot (expression_and e es) low h = both (h.0 spot low) (more_expressions spot es low h.1)

  more_arguments : (stand : CallPlace) (c : Option Call) (site k : ℕ) (es : Expressions) → EachSays es
      → Says source (AllHaveWords source (arguments_marks stand c site k es)) (SpellsMore (read_in edition source.text) place es)
  unfolding SpellsMore arguments_marks
  more_arguments stand c site k no_expression h = says_nothing none_left
  more_arguments stand c site k (expression_and e es) h =
      let spot = argument_spot stand c site in
      behind (keeps_token _)
      (so (λ w. both_have w.0 (both_have (given_has site (argument_taker stand c) e) w.1))
      (says_both (so (argued_at c site k (is_none_left es) spot e refl) (h.0 spot tt))
      (more_arguments stand c site (k + 1) es h.1)))

  pub says_argument_list : (stand : CallPlace) (c : Option Call) (site k : ℕ) (es : Expressions) → EachSays es
      → Says source (AllHaveWords source (arguments_marks stand c site k es)) (SpellsExpressions (read_in edition source.text) place es)
  unfolding SpellsExpressions arguments_marks
  says_argument_list stand c site k no_expression h = says_never
  says_argument_list stand c site k (expression_and e es) h =
      let spot = argument_spot stand c site in
      so (λ w. both_have w.0 (both_have (given_has site (argument_taker stand c) e) w.1))
      (says_both (so (argued_at c site k (is_none_left es) spot e refl) (h.0 spot tt))
      (more_arguments stand c site (k + 1) es h.1))

  more_items : (site k : ℕ) (es : Expressions) → EachSays es
      → Says source (AllHaveWords source (items_marks site k es)) (SpellsMore (read_in edition source.text) place es)
  unfolding SpellsMore items_marks
  more_items site k no_expression h = says_nothing none_left
  more_items site k (expression_and e es) h =
      behind (keeps_token _) (both (h.0 (whole (return_item k) site) tt) (more_items site (k + 1) es h.1))

  pub says_items : (site k : ℕ) (es : Expressions) → EachSays es
      → Says source (AllHaveWords source (items_marks site k es)) (SpellsExpressions (read_in edition source.text) place es)
  unfolding SpellsExpressions items_marks
  says_items site k no_expression h = says_never
  says_items site k (expression_and e es) h = both (h.0 (whole (return_item k) site) tt) (more_items site (k + 1) es h.1)

  more_ranged : (site : ℕ) (es : Expressions) → EachSays es
      → Says source (AllHaveWords source (ranged_marks site es)) (SpellsMore (read_in edition source.text) place es)
  unfolding SpellsMore ranged_marks
  more_ranged site no_expression h = says_nothing none_left
  more_ranged site (expression_and e es) h =
      behind (keeps_token _)
      (so (λ w. both_have (exposed_has site e w.0) (both_have (unread_has site e) w.1))
      (says_both (h.0 (part_of site) tt) (more_ranged site es h.1)))

  pub says_ranged : (site : ℕ) (es : Expressions) → EachSays es
      → Says source (AllHaveWords source (ranged_marks site es)) (SpellsExpressions (read_in edition source.text) place es)
  unfolding SpellsExpressions ranged_marks
  says_ranged site no_expression h = says_never
  says_ranged site (expression_and e es) h =
      so (λ w. both_have (exposed_has site e w.0) (both_have (unread_has site e) w.1))
      (says_both (h.0 (part_of site) tt) (more_ranged site es h.1))

  on_left : (row : Row) (site k : ℕ) (e : Expression) → AllHaveWords source (expression_marks (part_of site) e)
      → RowHasWords source row
      → AllHaveWords source (named_or (as_bare e) site (left k row) (exposed_or site e (expression_marks (part_of site) e)))
  on_left row site k e h r = in_place (as_bare e) site (left k row) (bare_there (part_of site) e h) r (exposed_has site e h)

  more_lefts : (row : Row) (site k : ℕ) (es : Expressions) → EachSays es
      → Says source (RowHasWords source row → AllHaveWords source (lefts_marks row site k es)) (SpellsMore (read_in edition source.text) place es)
  unfolding SpellsMore lefts_marks
  more_lefts row site k no_expression h = says_nothing λ r. none_left
  more_lefts row site k (expression_and e es) h =
      behind (keeps_token _) (so (λ w r. both_have (on_left row site k e w.0 r) (both_have (stored_has site k row e r) (w.1 r)))
      (says_both (h.0 (part_of site) tt) (more_lefts row site (k + 1) es h.1)))

  pub says_lefts : (row : Row) (site k : ℕ) (es : Expressions) → EachSays es
      → Says source (RowHasWords source row → AllHaveWords source (lefts_marks row site k es))
      (SpellsExpressions (read_in edition source.text) place es)
  unfolding SpellsExpressions lefts_marks
  says_lefts row site k no_expression h = says_never
  says_lefts row site k (expression_and e es) h =
      so (λ w r. both_have (on_left row site k e w.0 r) (both_have (stored_has site k row e r) (w.1 r)))
      (says_both (h.0 (part_of site) tt) (more_lefts row site (k + 1) es h.1))

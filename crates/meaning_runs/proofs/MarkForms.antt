-- The marks of each part of a tree are made of few forms: mentions, calls with and without a literal as their only
-- argument, returns, and bodies, of which one that is called under `defer` is marked so behind it. Outside all bodies no
-- call stands as a whole, and no literal is called under `defer`. So what holds of these forms holds of all marks.
use Rattle.std.proofs.Common.{◌≡◌, ℕ, ◌+◌, Bool, true, false, List, [], ◌∷◌, ◌++◌, Option, Some, None, refl, sym, ap, ◌∙◌, subst, append_assoc}
use Rattle.std.specs.Prelude.{◌&&◌, not, if◌then◌else◌, is_some, option_map, ◌-◌, ◌||◌}
use Rattle.tree.specs.declared.operator.DeclKeyword.{DeclKeyword}
use Rattle.tree.specs.declared.span.Span.{Span}
use Rattle.tree.specs.Syntax.{Identifier, Expression, expression_node, ExpressionForm, name_expression, basic_literal, function_literal, composite_literal, literal_value, key_value, parenthesized, selector_expression, index_expression, instance_expression, slice_expression, type_assertion, call_expression, star_expression, unary_expression, binary_expression, array_type, ellipsis_array_type, slice_type, map_type, channel_type, function_type, struct_type, interface_type, Expressions, no_expression, expression_and, OptionalExpression, missing_expression, present_expression, Signature, signature_of, Parameters, no_parameter, named_and, unnamed_and, name_alone_and, Fields, no_field, fields_and, embedded_and, element_and, method_and, Statement, statement_node, StatementForm, empty_statement, declaration_statement, labeled_statement, expression_statement, send_statement, increment_statement, decrement_statement, assignment, operator_assignment, define_statement, go_statement, defer_statement, return_statement, break_statement, continue_statement, goto_statement, fallthrough_statement, block_statement, if_statement, for_statement, range_assignment, range_definition, switch_statement, type_switch_statement, select_statement, Statements, no_statement, statement_and, OptionalStatement, missing_statement, present_statement, CaseClauses, no_case, case_and, CommunicationClauses, no_communication, communication_and, Declaration, declaration_of, Specs, no_spec, value_and, type_and, Block, Function, TopLevelDeclaration, function_declaration, general_declaration, ImportSpec, SourceFile}
use Rattle.meaning.specs.OuterBlocks.{specs_of}
use Rattle.meaning.specs.Scopes.{is_blank, parameters_named, named_in_types}
use Rattle.meaning.specs.Mentions.{Named, as_bare, as_named, as_bracketed, as_pointer, as_new_literal, select_from, defines, assigns, declares, Standing, ordinary, first_of_for, communication, Row, CallPlace, nowhere, as_statement, only_value, return_item, deferred, place_in, Call, is_one, is_none_left, is_start, LiteralUse, other_use, deferred_call, started_by, argument_use, callee_use, Role, elsewhere, called, called_in_brackets, argument, left, names_type, new_literal, parameter_pointer, Mention, BodyPlace, Mark, mentions, runs_literal, returns, Spot, part_of, whole, mention, name_role, named_or, callee_or, addressed, argument_or, argument_at, new_literal_or, deferral, literal_body, in_body, parameter_type_or, value_spot, left_names, declared_elsewhere, guard_in_clause, row_of, expression_marks, form_marks, expressions_marks, optional_marks, arguments_marks, items_marks, lefts_marks, names_type_marks, signature_marks, parameters_marks, fields_marks, statement_marks, statement_form_marks, statements_marks, optional_statement_marks, cases_marks, communications_marks, declaration_marks, specs_marks, type_parameters_marks, receiver_marks, function_body, function_types_marks, function_marks, outer_specs_marks, top_level_marks, top_levels_marks, file_marks, exposed, addressed_within, bare_within, ranged_marks, NilTest, nil_marks, nil_where, error_where, error_marks, row_in, first_row, guard_marks, behind_row, under_go, pointed_to, of_fields, Assigned, FieldMark, callee_spot, argument_spot, argument_taker, literal_taker, receiver_given, field_called, field_written, given_to, literal_given_to, sent, rights_given, guard_renewed, communication_given, call_of, as_key, arguments_place, imports_all, is_dot, import_marks, Moment, at_return, in_goroutine, call_under_go}
use Rattle.meaning_runs.proofs.FieldMarks.{FieldsOnly, no_more, and_one, fields_both, Any, any, called_only, given_only, literal_only, receiver_only, rights_only, sent_only, communication_only, guard_only, written_only}
use Rattle.meaning.specs.Uses.{literal_at, only_argument, started_literal, is_run}

-- The forms

abbrev pub is_call : Role → Bool
is_call (called c) = true
is_call role = false

abbrev pub is_started : LiteralUse → Bool
is_started other_use = false
is_started deferred_call = false
is_started call_under_go = false
is_started (started_by n) = true

-- the literal that is the only argument of the call, by its offset
abbrev pub literal_of : Call → Option ℕ
literal_of c = started_literal (only_argument c)

-- a call that stands in no body stands nowhere as a whole
abbrev pub IsPlaced : Bool → Call → Type 0
IsPlaced is_inside c = is_inside ≡ false → c.place ≡ nowhere

-- how a literal stands that runs then
abbrev pub use_at : Moment → LiteralUse
use_at at_return = deferred_call
use_at in_goroutine = call_under_go

-- marks that stand in a body, or in none
pub data AreMade : Bool → List Mark → Type 0 where
  no_mark : {i : Bool} → AreMade i []
  both_parts : {i : Bool} {xs ys zs : List Mark} → AreMade i xs → AreMade i ys → zs ≡ xs ++ ys → AreMade i zs
  a_mention : {i : Bool} (m : Mention) → is_call m.role ≡ false → AreMade i (mentions m ∷ [])
  a_call : {i : Bool} (site : ℕ) (c : Call)
      → literal_of c ≡ None
      → IsPlaced i c
      → AreMade i (mention site (called c) c.callee ∷ [])
  a_field : {i : Bool} (site : ℕ) (m : FieldMark) → AreMade i (of_fields site m ∷ [])
  -- the literal stands before the callee, and between them what is given
  a_call_with : {i : Bool} {ms fs : List Mark} (site : ℕ) (c : Call) (b : BodyPlace)
      → literal_of c ≡ Some b.at
      → b.literal ≡ argument_use (Some c)
      → b.name ≡ None
      → IsPlaced i c
      → AreMade true ms
      → FieldsOnly Any site fs
      → AreMade i (in_body b ms ++ (fs ++ mention site (called c) c.callee ∷ []))
  a_return : (at : ℕ) (es : Expressions) → AreMade true (returns at es ∷ [])
  a_body : {i : Bool} {ms : List Mark} (b : BodyPlace)
      → is_started b.literal ≡ false
      → (i ≡ false → is_run b.literal ≡ false)
      → AreMade true ms
      → AreMade i (in_body b ms)
  a_run_body : {ms : List Mark} (moment : Moment) (b : BodyPlace) (site : ℕ)
      → b.literal ≡ use_at moment
      → AreMade true ms
      → AreMade true (in_body b ms ++ runs_literal moment site b.at ∷ [])

-- Parts

both : {i : Bool} {xs ys : List Mark} → AreMade i xs → AreMade i ys → AreMade i (xs ++ ys)
both h k = both_parts h k refl

fields : {i : Bool} {site : ℕ} (ms : List Mark) → FieldsOnly Any site ms → AreMade i ms
fields ms no_more = no_mark
fields ms (and_one {ms = rest} m p h) = both_parts (a_field _ m) (fields rest h) refl

writes : {i : Bool} (site : ℕ) (by : Option Assigned) (e : Expression) → AreMade i (field_written site by e)
writes site by e = fields (field_written site by e) (written_only Any any site by e (λ l q. tt))

chosen : {i : Bool} (b : Bool) {xs ys : List Mark} → AreMade i xs → AreMade i ys → AreMade i (if b then xs else ys)
chosen true h k = h
chosen false h k = k

named : {i : Bool} (o : Option Named) (site : ℕ) (role : Role) {ms : List Mark}
    → is_call role ≡ false
    → AreMade i ms
    → AreMade i (named_or o site role ms)
named None site role none h = h
named (Some n) site role none h = a_mention _ none

name_is_no_call : (place : CallPlace) → is_call (name_role place) ≡ false
name_is_no_call nowhere = refl
name_is_no_call as_statement = refl
name_is_no_call (only_value row) = refl
name_is_no_call (return_item k) = refl
name_is_no_call deferred = refl
name_is_no_call under_go = refl

argued : {i : Bool} (c : Call) (site k : ℕ) (e : Expression) {ms : List Mark}
    → AreMade i ms
    → AreMade i (argument_or c site k e ms)
argued c site k (expression_node (unary_expression op e) span) h =
    named (addressed op e) site (argument k true c) refl h
argued c site k e h = named (as_named e) site (argument k false c) refl h

argued_at : {i : Bool} (c : Option Call) (site k : ℕ) (is_last : Bool) (e : Expression) {ms : List Mark}
    → AreMade i ms
    → AreMade i (argument_at c site k is_last e ms)
argued_at None site k is_last e h = h
argued_at (Some c) site k is_last e h = chosen (is_last && c.has_ellipsis) h (argued c site k e h)

newly : {i : Bool} (place : CallPlace) (site : ℕ) (n : Option Named) {ms : List Mark}
    → AreMade i ms
    → AreMade i (new_literal_or place site n ms)
newly nowhere site n h = h
newly as_statement site n h = h
newly (only_value row) site n h = named n site (new_literal row) refl h
newly (return_item k) site n h = h
newly deferred site n h = h
newly under_go site n h = h

typed : {i : Bool} (is_plain : Bool) (t : Expression) (site : ℕ) {ms : List Mark}
    → AreMade i ms
    → AreMade i (parameter_type_or is_plain t site ms)
typed is_plain t site h = chosen is_plain (named (as_pointer t) site parameter_pointer refl h) h

names : {i : Bool} (row : Row) (site k : ℕ) (ns : List Identifier) → AreMade i (left_names row site k ns)
names row site k [] = no_mark
names row site k (n ∷ ns) = both_parts (a_mention _ refl) (names row site (k + 1) ns) refl

names_elsewhere : {i : Bool} (site : ℕ) (ns : List Identifier) → AreMade i (declared_elsewhere site ns)
names_elsewhere site [] = no_mark
names_elsewhere site (n ∷ ns) = both_parts (a_mention _ refl) (names_elsewhere site ns) refl

nil_made : {i : Bool} (site : ℕ) (ts : List NilTest) → AreMade i (nil_marks site ts)
nil_made site [] = no_mark
nil_made site (t ∷ ts) = both_parts (a_mention _ refl) (nil_made site ts) refl

error_made : {i : Bool} (site : ℕ) (row : Row) (ts : List NilTest) → AreMade i (error_marks site row ts)
error_made site row [] = no_mark
error_made site row (t ∷ ts) = both_parts (a_mention _ refl) (error_made site row ts) refl

guard_made : {i : Bool} (row : Option Row) (c : Expression) (braces : Span) → AreMade i (guard_marks row c braces)
guard_made None c braces = no_mark
guard_made (Some row) c braces =
    both (error_made braces.start row (error_where true c)) (error_made (braces.end - 1) row (error_where false c))

behind_made : {i : Bool} (row : Option Row) (ss : Statements) → AreMade i (behind_row row ss)
behind_made row (statement_and (statement_node (if_statement missing_statement semicolon c ss braces other) span) rest) =
    guard_made row c braces
behind_made row ss = no_mark

guarded : {i : Bool} (site : ℕ) (n : Option Identifier) (clause : Span) → AreMade i (guard_in_clause site n clause)
guarded site None clause = no_mark
guarded site (Some n) clause = chosen (is_blank n.text) no_mark (a_mention _ refl)

-- How expressions stand

abbrev pub is_literal : Expression → Bool
is_literal e = is_some (literal_at e)

abbrev pub has_literal : Expressions → Bool
has_literal no_expression = false
has_literal (expression_and e es) = is_literal e || has_literal es

-- outside all bodies the spot is no place, and it is that of the only argument for no literal
pub record Fits (i : Bool) (spot : Spot) (is_one_literal : Bool) : Type 0 where
  pub place : i ≡ false → spot.place ≡ nowhere
  pub no_deferral : i ≡ false → is_run spot.literal ≡ false
  pub alone : (is_started spot.literal && is_one_literal) ≡ false

pub free : (i : Bool) (site : ℕ) (b : Bool) → Fits i (part_of site) b
free i site b = record { place = λ o. refl; no_deferral = λ o. refl; alone = refl }

inside : (place : CallPlace) (site : ℕ) (b : Bool) → Fits true (whole place site) b
inside place site b = record {
  place = λ o. let bad : true ≡ false = o in cc;
  no_deferral = λ o. refl;
  alone = refl;
}

first_false : (b c d : Bool) → (b && (c || d)) ≡ false → (b && c) ≡ false
first_false true true d e = let bad : true ≡ false = e in cc
first_false true false d e = refl
first_false false c d e = refl

second_false : (b c d : Bool) → (b && (c || d)) ≡ false → (b && d) ≡ false
second_false true true d e = let bad : true ≡ false = e in cc
second_false true false d e = e
second_false false c d e = refl

no_second : (b : Bool) → (b && false) ≡ false
no_second true = refl
no_second false = refl

no_first : (b c : Bool) → b ≡ false → (b && c) ≡ false
no_first b c e = ap (λ x. x && c) e

first_of : {i : Bool} {spot : Spot} (b c : Bool) → Fits i spot (b || c) → Fits i spot b
first_of {spot = spot} b c h = record {
  place = h.place;
  no_deferral = h.no_deferral;
  alone = first_false (is_started spot.literal) b c h.alone;
}

rest_of : {i : Bool} {spot : Spot} (b c : Bool) → Fits i spot (b || c) → Fits i spot c
rest_of {spot = spot} b c h = record {
  place = h.place;
  no_deferral = h.no_deferral;
  alone = second_false (is_started spot.literal) b c h.alone;
}

-- the callee of a call is no argument
callee_fits : (i : Bool) (spot : Spot) (b : Bool)
    → (i ≡ false → spot.place ≡ nowhere)
    → Fits i (callee_spot spot) b
callee_fits i spot b none = record {
  place = λ o. refl;
  no_deferral = λ o. ap (λ p. is_run (callee_use p)) (none o);
  alone = by spot.place;
}
  where
    by : (p : CallPlace) → (is_started (callee_use p) && b) ≡ false
    by nowhere = refl
    by as_statement = refl
    by (only_value row) = refl
    by (return_item k) = refl
    by deferred = refl
    by under_go = refl

used_so : (b : Bool) (n : Named) (use_of : LiteralUse → Bool)
    → use_of (started_by n) ≡ false
    → use_of other_use ≡ false
    → use_of (if b then started_by n else other_use) ≡ false
used_so true n use_of h k = h
used_so false n use_of h k = k

-- an argument is called neither under `defer` nor under `go`
pub argument_is_not_run : (o : Option Call) → is_run (argument_use o) ≡ false
argument_is_not_run None = refl
argument_is_not_run (Some c) =
    used_so (is_start c.callee && (is_one c.arguments && not c.has_ellipsis)) c.callee is_run refl refl

argument_fits : (i : Bool) (place : CallPlace) (o : Option Call) (site : ℕ) (b : Bool)
    → (is_started (argument_use o) && b) ≡ false
    → Fits i (argument_spot place o site) b
argument_fits i place o site b alone = record {
  place = λ p. refl;
  no_deferral = λ p. argument_is_not_run o;
  alone = alone;
}

-- one of several arguments, or of none, or under `...`, is not started
several : (c : Call) (b : Bool)
    → (is_one c.arguments && not c.has_ellipsis) ≡ false
    → (is_started (argument_use (Some c)) && b) ≡ false
several c b e = no_first _ b (by (is_start c.callee) (is_one c.arguments && not c.has_ellipsis) e)
  where
    by : (x y : Bool) → y ≡ false → is_started (if x && y then started_by c.callee else other_use) ≡ false
    by true true q = q
    by true false q = refl
    by false y q = refl

no_deferral_behind : (o : Option Call) (site at : ℕ) → deferral (argument_use o) site at ≡ []
no_deferral_behind None site at = refl
no_deferral_behind (Some c) site at =
    by (is_start c.callee && (is_one c.arguments && not c.has_ellipsis))
  where
    by : (b : Bool) → deferral (if b then started_by c.callee else other_use) site at ≡ []
    by true = refl
    by false = refl

-- a literal, with what stands behind it
literal_made : (i : Bool) (used : LiteralUse) (site : ℕ) (b : BodyPlace) {ms : List Mark} (given : List Mark)
    → b.literal ≡ used
    → (i ≡ false → is_run used ≡ false)
    → (is_started used && true) ≡ false
    → AreMade true ms
    → FieldsOnly Any site given
    → AreMade i (in_body b ms ++ (deferral used site b.at ++ given))
literal_made i other_use site b given is none alone h g =
    both (a_body b (ap is_started is) (λ o. ap is_run is) h) (fields given g)
literal_made true deferred_call site b {ms} given is none alone h g =
    both_parts (a_run_body at_return b site is h) (fields given g)
    (sym (append_assoc (in_body b ms) (runs_literal at_return site b.at ∷ []) given))
literal_made true call_under_go site b {ms} given is none alone h g =
    both_parts (a_run_body in_goroutine b site is h) (fields given g)
    (sym (append_assoc (in_body b ms) (runs_literal in_goroutine site b.at ∷ []) given))
literal_made false call_under_go site b given is none alone h g = let bad : true ≡ false = none refl in absurd (cc)
literal_made false deferred_call site b given is none alone h g = let bad : true ≡ false = none refl in absurd (cc)
literal_made i (started_by n) site b given is none alone h g = let bad : true ≡ false = alone in absurd (cc)

abbrev call_by : CallPlace → Expressions → Bool → Option Named → Option Call
call_by place es ellipsis o =
    option_map (λ n. record { callee = n; arguments = es; has_ellipsis = ellipsis; place = place }) o

-- what stands in the literal, if the expression is one
abbrev IsLiteralMade : Expression → Type 0
IsLiteralMade (expression_node (function_literal signature ss braces) span) =
    AreMade true (signature_marks span.start signature ++ statements_marks ss)
IsLiteralMade e = Unit {0}

-- in the only one of these, if it is one
abbrev IsOnlyMade : Expressions → Type 0
IsOnlyMade no_expression = Unit {0}
IsOnlyMade (expression_and e no_expression) = IsLiteralMade e
IsOnlyMade (expression_and e (expression_and f es)) = Unit {0}

-- marks of an only literal, of what is given, and of the callee
literal_first : (a b c d : List Mark) → ((a ++ b) ++ c) ++ d ≡ a ++ ((b ++ c) ++ d)
literal_first a b c d =
    append_assoc (a ++ b) c d ∙ append_assoc a b (c ++ d) ∙ ap (λ (l : List Mark). a ++ l) (sym (append_assoc b c d))

-- a call, by what its callee names: its arguments, as they stand there, and then the callee
call_made : (i : Bool) (place to : CallPlace) (site : ℕ)
    → (i ≡ false → place ≡ nowhere)
    → (o : Option Named) (e : Expression) (es : Expressions) (ellipsis : Bool) {ms : List Mark}
    → AreMade i ms
    → ((c : Option Call) → (is_started (argument_use c) && has_literal es) ≡ false → AreMade i (arguments_marks to c site 0 es))
    → IsOnlyMade es
    → AreMade i (arguments_marks to (call_by place es ellipsis o) site 0 es
    ++ callee_or (call_by place es ellipsis o) site e ms)
unfolding expression_marks form_marks arguments_marks
call_made i place to site none None e es ellipsis h arguments only =
    both (arguments None refl) (named (as_bracketed e) site called_in_brackets refl h)
call_made i place to site none (Some n) e no_expression ellipsis h arguments only =
    a_call site record { callee = n; arguments = no_expression; has_ellipsis = ellipsis; place = place } refl none
call_made i place to site none (Some n) e (expression_and (expression_node (function_literal signature ss braces) span) no_expression) false h arguments only =
    let literal = expression_node (function_literal signature ss braces) span in
    let a = expression_and literal no_expression in
    let c : Call = record { callee = n; arguments = a; has_ellipsis = false; place = place } in
    let b = literal_body (argument_use (Some c)) span.start signature ss braces in
    let ms = signature_marks span.start signature ++ statements_marks ss in
    let saved = deferral (argument_use (Some c)) site span.start in
    let taken = literal_given_to site (literal_taker to (Some c)) span.start in
    let given = given_to site (argument_taker to (Some c)) literal ++ [] in
    let callee = mention site (called c) n ∷ [] in
    subst (AreMade i) (sym (literal_first (in_body b ms) (saved ++ taken) given callee))
    (a_call_with site c b refl refl refl none only
    (fields_both (saved ++ taken)
    (fields_both saved (subst (FieldsOnly Any site) (sym (no_deferral_behind (Some c) site span.start)) no_more)
    (literal_only Any any site (literal_taker to (Some c)) span.start))
    (fields_both (given_to site (argument_taker to (Some c)) literal)
    (given_only Any any site (argument_taker to (Some c)) literal) no_more)))
call_made i place to site none (Some n) e (expression_and (expression_node form span) no_expression) false h arguments only =
    let a = expression_and (expression_node form span) no_expression in
    let c : Call = record { callee = n; arguments = a; has_ellipsis = false; place = place } in
    both_parts (arguments (Some c) (no_second (is_started (argument_use (Some c))))) (a_call site c refl none) refl
call_made i place to site none (Some n) e (expression_and a no_expression) true h arguments only =
    let all = expression_and a no_expression in
    let c : Call = record { callee = n; arguments = all; has_ellipsis = true; place = place } in
    both_parts (arguments (Some c) (several c (has_literal all) refl)) (a_call site c refl none) refl
call_made i place to site none (Some n) e (expression_and a (expression_and b es)) ellipsis h arguments only =
    let all = expression_and a (expression_and b es) in
    let c : Call = record { callee = n; arguments = all; has_ellipsis = ellipsis; place = place } in
    both_parts (arguments (Some c) (several c (has_literal all) refl)) (a_call site c refl none) refl

-- with what is marked of fields before and behind them
call_with_fields : {i : Bool} (before arguments callee after : List Mark) → AreMade i before
    → AreMade i (arguments ++ callee)
    → AreMade i after
    → AreMade i (before ++ (arguments ++ (callee ++ after)))
call_with_fields before arguments callee after h k l =
    both h (both_parts k l (sym (append_assoc arguments callee after)))

mutual
  unfolding expression_marks form_marks expressions_marks optional_marks arguments_marks items_marks lefts_marks ranged_marks names_type_marks signature_marks parameters_marks fields_marks statement_marks statement_form_marks statements_marks optional_statement_marks cases_marks communications_marks declaration_marks specs_marks

  pub of_expression : (i : Bool) (spot : Spot) (e : Expression)
      → Fits i spot (is_literal e)
      → AreMade i (expression_marks spot e)
  of_expression i spot (expression_node form span) fits = of_form i spot span form fits

  pub of_form : (i : Bool) (spot : Spot) (span : Span) (form : ExpressionForm)
      → Fits i spot (is_literal (expression_node form span))
      → AreMade i (form_marks spot span form)
  of_form i spot span (name_expression text) fits = a_mention _ (name_is_no_call spot.place)
  of_form i spot span (basic_literal kind) fits = no_mark
  of_form i spot span (function_literal signature ss braces) fits =
      literal_made i spot.literal spot.site (literal_body spot.literal span.start signature ss braces)
      (literal_given_to spot.site spot.taker span.start) refl fits.no_deferral fits.alone
      (both (of_signature true span.start signature) (of_statements ss))
      (literal_only Any any spot.site spot.taker span.start)
  of_form i spot span (composite_literal t es) fits =
      both (of_expression i (part_of spot.site) t (free i spot.site (is_literal t)))
      (of_expressions i (part_of spot.site) es (free i spot.site (has_literal es)))
  of_form i spot span (literal_value es) fits =
      of_expressions i (part_of spot.site) es (free i spot.site (has_literal es))
  of_form i spot span (key_value k v) fits =
      both (named (as_bare k) spot.site as_key refl
      (of_expression i (part_of spot.site) k (free i spot.site (is_literal k))))
      (of_expression i (part_of spot.site) v (free i spot.site (is_literal v)))
  of_form i spot span (parenthesized e) fits =
      of_expression i (part_of spot.site) e (free i spot.site (is_literal e))
  of_form i spot span (selector_expression e n) fits =
      named (select_from (as_bare e) n) spot.site elsewhere refl
      (of_expression i (part_of spot.site) e (free i spot.site (is_literal e)))
  of_form i spot span (index_expression e k) fits =
      both (of_expression i (part_of spot.site) e (free i spot.site (is_literal e)))
      (of_expression i (part_of spot.site) k (free i spot.site (is_literal k)))
  of_form i spot span (instance_expression e es) fits =
      both (of_expression i (part_of spot.site) e (free i spot.site (is_literal e)))
      (of_expressions i (part_of spot.site) es (free i spot.site (has_literal es)))
  of_form i spot span (slice_expression e low high most) fits =
      both (of_expression i (part_of spot.site) e (free i spot.site (is_literal e)))
      (both (of_optional i spot.site low) (both (of_optional i spot.site high) (of_optional i spot.site most)))
  of_form i spot span (type_assertion e t) fits =
      both (of_expression i (part_of spot.site) e (free i spot.site (is_literal e)))
      (of_expression i (part_of spot.site) t (free i spot.site (is_literal t)))
  of_form i spot span (call_expression e es ellipsis) fits =
      call_with_fields (receiver_given spot.place spot.site e)
      (arguments_marks (arguments_place spot.place e) (call_of spot.place e es ellipsis) spot.site 0 es)
      (callee_or (call_of spot.place e es ellipsis) spot.site e (expression_marks (callee_spot spot) e))
      (field_called spot.site e)
      (fields (receiver_given spot.place spot.site e) (receiver_only Any any spot.place spot.site e))
      (call_made i spot.place (arguments_place spot.place e) spot.site fits.place (as_named e) e es ellipsis
      (of_expression i (callee_spot spot) e (callee_fits i spot (is_literal e) fits.place))
      (λ c alone. of_arguments i (arguments_place spot.place e) c spot.site 0 es alone) (of_only es))
      (fields (field_called spot.site e) (called_only Any any spot.site e))
  of_form i spot span (star_expression e) fits =
      of_expression i (part_of spot.site) e (free i spot.site (is_literal e))
  of_form i spot span (unary_expression op e) fits =
      newly spot.place spot.site (as_new_literal op e)
      (named (addressed_within op e) spot.site pointed_to refl
      (of_expression i (part_of spot.site) e (free i spot.site (is_literal e))))
  of_form i spot span (binary_expression op l r) fits =
      both (of_expression i (part_of spot.site) l (free i spot.site (is_literal l)))
      (of_expression i (part_of spot.site) r (free i spot.site (is_literal r)))
  of_form i spot span (array_type n t) fits =
      both (of_expression i (part_of spot.site) n (free i spot.site (is_literal n)))
      (of_expression i (part_of spot.site) t (free i spot.site (is_literal t)))
  of_form i spot span (ellipsis_array_type t) fits =
      of_expression i (part_of spot.site) t (free i spot.site (is_literal t))
  of_form i spot span (slice_type t) fits = of_expression i (part_of spot.site) t (free i spot.site (is_literal t))
  of_form i spot span (map_type k t) fits =
      both (of_expression i (part_of spot.site) k (free i spot.site (is_literal k)))
      (of_expression i (part_of spot.site) t (free i spot.site (is_literal t)))
  of_form i spot span (channel_type direction t) fits =
      of_expression i (part_of spot.site) t (free i spot.site (is_literal t))
  of_form i spot span (function_type signature) fits = of_signature i spot.site signature
  of_form i spot span (struct_type fs) fits = of_members i spot.site fs
  of_form i spot span (interface_type fs) fits = of_members i spot.site fs

  of_literal : (e : Expression) → IsLiteralMade e
  of_literal (expression_node form span) = of_literal_form span form

  of_literal_form : (span : Span) (form : ExpressionForm) → IsLiteralMade (expression_node form span)
  of_literal_form span (function_literal signature ss braces) = both (of_signature true span.start signature) (of_statements ss)
  of_literal_form span form = tt

  of_only : (es : Expressions) → IsOnlyMade es
  of_only no_expression = tt
  of_only (expression_and e no_expression) = of_literal e
  of_only (expression_and e (expression_and f es)) = tt

  pub of_expressions : (i : Bool) (spot : Spot) (es : Expressions)
      → Fits i spot (has_literal es)
      → AreMade i (expressions_marks spot es)
  of_expressions i spot no_expression fits = no_mark
  of_expressions i spot (expression_and e es) fits =
      both (of_expression i spot e (first_of (is_literal e) (has_literal es) fits)) (of_expressions i spot es (rest_of (is_literal e) (has_literal es) fits))

  pub of_optional : (i : Bool) (site : ℕ) (e : OptionalExpression) → AreMade i (optional_marks site e)
  of_optional i site missing_expression = no_mark
  of_optional i site (present_expression e) = of_expression i (part_of site) e (free i site (is_literal e))

  of_arguments : (i : Bool) (place : CallPlace) (c : Option Call) (site k : ℕ) (es : Expressions)
      → (is_started (argument_use c) && has_literal es) ≡ false
      → AreMade i (arguments_marks place c site k es)
  of_arguments i place c site k no_expression alone = no_mark
  of_arguments i place c site k (expression_and e es) alone =
      both (argued_at c site k (is_none_left es) e
      (of_expression i (argument_spot place c site) e
      (argument_fits i place c site (is_literal e) (first_false (is_started (argument_use c)) (is_literal e) (has_literal es) alone))))
      (both (fields (given_to site (argument_taker place c) e) (given_only Any any site (argument_taker place c) e))
      (of_arguments i place c site (k + 1) es (second_false (is_started (argument_use c)) (is_literal e) (has_literal es) alone)))

  of_items : (site k : ℕ) (es : Expressions) → AreMade true (items_marks site k es)
  of_items site k no_expression = no_mark
  of_items site k (expression_and e es) =
      both (of_expression true (whole (return_item k) site) e (inside (return_item k) site (is_literal e)))
      (of_items site (k + 1) es)

  of_lefts : (row : Row) (site k : ℕ) (es : Expressions) → AreMade true (lefts_marks row site k es)
  of_lefts row site k no_expression = no_mark
  of_lefts row site k (expression_and e es) =
      both (named (as_bare e) site (left k row) refl (named (bare_within e) site exposed refl
      (of_expression true (part_of site) e (free true site (is_literal e)))))
      (both (writes site (Some record { left_side = k; row = row }) e) (of_lefts row site (k + 1) es))

  of_ranged : (site : ℕ) (es : Expressions) → AreMade true (ranged_marks site es)
  of_ranged site no_expression = no_mark
  of_ranged site (expression_and e es) =
      both (named (bare_within e) site exposed refl (of_expression true (part_of site) e (free true site (is_literal e))))
      (both (writes site None e) (of_ranged site es))

  of_names_type : (row : Row) (site : ℕ) (t : OptionalExpression) → AreMade true (names_type_marks row site t)
  of_names_type row site missing_expression = no_mark
  of_names_type row site (present_expression t) =
      named (as_named t) site (names_type row) refl (of_expression true (part_of site) t (free true site (is_literal t)))

  pub of_signature : (i : Bool) (site : ℕ) (s : Signature) → AreMade i (signature_marks site s)
  of_signature i site (signature_of ps rs brackets) = both (of_parameters i true site ps) (of_parameters i false site rs)

  pub of_parameters : (i : Bool) (are_parameters : Bool) (site : ℕ) (ps : Parameters)
      → AreMade i (parameters_marks are_parameters site ps)
  of_parameters i are_parameters site no_parameter = no_mark
  of_parameters i are_parameters site (named_and n ellipsis t ps) =
      both (typed (are_parameters && not ellipsis) t site (of_expression i (part_of site) t (free i site (is_literal t))))
      (of_parameters i are_parameters site ps)
  of_parameters i are_parameters site (unnamed_and ellipsis t ps) =
      both (typed (are_parameters && not ellipsis) t site (of_expression i (part_of site) t (free i site (is_literal t))))
      (of_parameters i are_parameters site ps)
  of_parameters i are_parameters site (name_alone_and n ps) = of_parameters i are_parameters site ps

  of_members : (i : Bool) (site : ℕ) (fs : Fields) → AreMade i (fields_marks site fs)
  of_members i site no_field = no_mark
  of_members i site (fields_and ns t tag span fs) =
      both (of_expression i (part_of site) t (free i site (is_literal t))) (of_members i site fs)
  of_members i site (embedded_and star n tag span fs) = both_parts (a_mention _ refl) (of_members i site fs) refl
  of_members i site (element_and star t tag span fs) =
      both (of_expression i (part_of site) t (free i site (is_literal t))) (of_members i site fs)
  of_members i site (method_and n signature span fs) = both (of_signature i site signature) (of_members i site fs)

  of_statement : (standing : Standing) (s : Statement) → AreMade true (statement_marks standing s)
  of_statement standing (statement_node form span) = of_statement_form standing span.start form

  of_statement_form : (standing : Standing) (at : ℕ) (form : StatementForm)
      → AreMade true (statement_form_marks standing at form)
  of_statement_form standing at empty_statement = no_mark
  of_statement_form standing at (declaration_statement d) = of_declaration d
  of_statement_form standing at (labeled_statement n s) = of_statement standing s
  of_statement_form standing at (expression_statement e) =
      of_expression true (whole (place_in standing as_statement) at) e
      (inside (place_in standing as_statement) at (is_literal e))
  of_statement_form standing at (send_statement c v) =
      both (of_expression true (part_of at) c (free true at (is_literal c)))
      (both (of_expression true (part_of at) v (free true at (is_literal v)))
      (fields (sent standing at v) (sent_only Any any standing at v)))
  of_statement_form standing at (increment_statement e) =
      both (named (bare_within e) at exposed refl (of_expression true (part_of at) e (free true at (is_literal e))))
      (writes at None e)
  of_statement_form standing at (decrement_statement e) =
      both (named (bare_within e) at exposed refl (of_expression true (part_of at) e (free true at (is_literal e))))
      (writes at None e)
  of_statement_form standing at (assignment ls rs) =
      both (of_values (row_of standing at (assigns ls) rs) at rs)
      (both (fields (rights_given at (is_one rs) ls rs) (rights_only Any any at (is_one rs) ls rs))
      (of_lefts (row_of standing at (assigns ls) rs) at 0 ls))
  of_statement_form standing at (operator_assignment op l r) =
      both (named (bare_within l) at exposed refl (of_expression true (part_of at) l (free true at (is_literal l))))
      (both (of_expression true (part_of at) r (free true at (is_literal r))) (writes at None l))
  of_statement_form standing at (define_statement ns rs) =
      both (of_values (row_of standing at (defines ns) rs) at rs) (names (row_of standing at (defines ns) rs) at 0 ns)
  of_statement_form standing at (go_statement e) =
      of_expression true (whole under_go at) e (inside under_go at (is_literal e))
  of_statement_form standing at (defer_statement e) =
      of_expression true (whole deferred at) e (inside deferred at (is_literal e))
  of_statement_form standing at (return_statement es) = both (of_items at 0 es) (a_return at es)
  of_statement_form standing at (break_statement n) = no_mark
  of_statement_form standing at (continue_statement n) = no_mark
  of_statement_form standing at (goto_statement n) = no_mark
  of_statement_form standing at fallthrough_statement = no_mark
  of_statement_form standing at (block_statement ss braces) = of_statements ss
  of_statement_form standing at (if_statement init has_semicolon c ss braces otherwise) =
      both (of_optional_statement ordinary init) (both (of_expression true (part_of at) c (free true at (is_literal c)))
      (both (guard_made (first_row init) c braces)
      (both (both (nil_made braces.start (nil_where true c)) (both (of_statements ss)
      (nil_made (braces.end - 1) (nil_where false c)))) (of_optional_statement ordinary otherwise))))
  of_statement_form standing at (for_statement init c post has_semicolons ss braces) =
      both (of_optional_statement first_of_for init) (both (of_optional true at c)
      (both (of_optional_statement ordinary post) (of_statements ss)))
  of_statement_form standing at (range_assignment ls e ss braces) =
      both (of_ranged at ls) (both (of_expression true (part_of at) e (free true at (is_literal e))) (of_statements ss))
  of_statement_form standing at (range_definition ns e ss braces) =
      both (of_expression true (part_of at) e (free true at (is_literal e)))
      (both (names_elsewhere at ns) (of_statements ss))
  of_statement_form standing at (switch_statement init has_semicolon tag cs) =
      both (of_optional_statement ordinary init) (both (of_optional true at tag) (of_cases at None cs))
  of_statement_form standing at (type_switch_statement init has_semicolon n e cs) =
      both (of_optional_statement ordinary init)
      (both (of_expression true (part_of at) e (free true at (is_literal e))) (of_cases at n cs))
  of_statement_form standing at (select_statement cs) = of_communications cs

  -- the values of a row
  of_values : (row : Row) (site : ℕ) (es : Expressions) → AreMade true (expressions_marks (value_spot row site) es)
  of_values row site no_expression = no_mark
  of_values row site (expression_and e es) =
      let place = if is_one row.values then place_in row.standing (only_value row) else nowhere in
      both (of_expression true (whole place site) e (inside place site (is_literal e))) (of_values row site es)

  pub of_statements : (ss : Statements) → AreMade true (statements_marks ss)
  of_statements no_statement = no_mark
  of_statements (statement_and s ss) = both (of_statement ordinary s) (both (behind_made (row_in s) ss) (of_statements ss))

  of_optional_statement : (standing : Standing) (s : OptionalStatement)
      → AreMade true (optional_statement_marks standing s)
  of_optional_statement standing missing_statement = no_mark
  of_optional_statement standing (present_statement s) = of_statement standing s

  of_cases : (at : ℕ) (guard : Option Identifier) (cs : CaseClauses) → AreMade true (cases_marks at guard cs)
  of_cases at guard no_case = no_mark
  of_cases at guard (case_and es ss span cs) =
      both (guarded at guard span) (both (fields (guard_renewed guard span) (guard_only Any any guard span))
      (both (of_expressions true (part_of span.start) es (free true span.start (has_literal es)))
      (both (of_statements ss) (of_cases at guard cs))))

  of_communications : (cs : CommunicationClauses) → AreMade true (communications_marks cs)
  of_communications no_communication = no_mark
  of_communications (communication_and c ss span cs) =
      both (of_optional_statement communication c)
      (both (fields (communication_given span.start c) (communication_only Any any span.start c))
      (both (of_statements ss) (of_communications cs)))

  of_declaration : (d : Declaration) → AreMade true (declaration_marks d)
  of_declaration (declaration_of keyword specs is_grouped span) = of_specs keyword span.start specs

  of_specs : (keyword : DeclKeyword) (at : ℕ) (specs : Specs) → AreMade true (specs_marks keyword at specs)
  of_specs keyword at no_spec = no_mark
  of_specs keyword at (value_and ns t es span specs) =
      both (of_names_type (row_of ordinary at (declares keyword ns t) es) span.start t)
      (both (of_values (row_of ordinary at (declares keyword ns t) es) span.start es)
      (both (names (row_of ordinary at (declares keyword ns t) es) span.start 0 ns) (of_specs keyword at specs)))
  of_specs keyword at (type_and n ps is_alias t span specs) =
      both_parts (a_mention _ refl)
      (both (names_elsewhere span.start (parameters_named ps))
      (both (of_parameters true false span.start ps)
      (both (of_expression true (part_of span.start) t (free true span.start (is_literal t))) (of_specs keyword at specs))))
      refl

-- A file

pub of_receiver : (i : Bool) (site : ℕ) (ps : Option Parameters) → AreMade i (receiver_marks site ps)
of_receiver i site None = no_mark
of_receiver i site (Some ps) = both (names_elsewhere site (named_in_types ps)) (of_parameters i true site ps)

of_type_parameters : (i : Bool) (site : ℕ) (ps : Parameters) → AreMade i (type_parameters_marks site ps)
of_type_parameters i site ps = both (names_elsewhere site (parameters_named ps)) (of_parameters i false site ps)

pub of_types : (i : Bool) (f : Function) → AreMade i (function_types_marks f)
of_types i f =
    both (of_receiver i f.span.start f.receiver)
    (both (of_type_parameters i f.span.start f.type_parameters) (of_signature i f.span.start f.signature))

of_function : (f : Function) (b : Option Block) → AreMade false (function_marks f b)
of_function f None = of_types false f
of_function f (Some b) = a_body (function_body f b) refl (λ o. refl) (both (of_types true f) (of_statements b.statements))

of_outer_specs : (specs : Specs) → AreMade false (outer_specs_marks specs)
of_outer_specs no_spec = no_mark
of_outer_specs (value_and ns t es span specs) =
    both (of_optional false span.start t)
    (both (of_expressions false (part_of span.start) es (free false span.start (has_literal es))) (of_outer_specs specs))
of_outer_specs (type_and n ps is_alias t span specs) =
    both (of_type_parameters false span.start ps)
    (both (of_expression false (part_of span.start) t (free false span.start (is_literal t))) (of_outer_specs specs))

pub of_top_level : (d : TopLevelDeclaration) → AreMade false (top_level_marks d)
of_top_level (function_declaration f) = of_function f f.body
of_top_level (general_declaration (declaration_of keyword specs is_grouped span)) = of_outer_specs specs

of_top_levels : (ds : List TopLevelDeclaration) → AreMade false (top_levels_marks ds)
of_top_levels [] = no_mark
of_top_levels (d ∷ ds) = both (of_top_level d) (of_top_levels ds)

pub of_imports : (specs : List ImportSpec) → AreMade false (import_marks specs)
of_imports [] = no_mark
of_imports (s ∷ ss) = both (chosen (is_dot s.name) (a_field s.span.start imports_all) no_mark) (of_imports ss)

pub of_file : (file : SourceFile) → AreMade false (file_marks file)
of_file file = both (of_imports (specs_of file.imports)) (of_top_levels file.declarations)

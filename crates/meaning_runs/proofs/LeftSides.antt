-- A mention whose role is a left side of a row is what stands on that left side of the row.
use Rattle.std.proofs.Common.{◌≡◌, ◌⊎◌, ℕ, zero, suc, ◌+◌, Bool, true, false, inl, inr, List, [], ◌∷◌, ◌++◌, map, drop, Option, Some, None, Contains, refl, sym, ap, ◌∙◌, subst, arith}
use Rattle.std.specs.Prelude.{◌&&◌, if◌then◌else◌, not, slice_get, ◌-◌}
use Rattle.std.proofs.lemmas.Option.{none-some, same_Some}
use Rattle.std.proofs.lemmas.List.Elements.{Contains-append_cases}
use Rattle.tree.specs.declared.operator.DeclKeyword.{DeclKeyword}
use Rattle.tree.specs.declared.span.Span.{Span}
use Rattle.tree.specs.Syntax.{Identifier, Expression, expression_node, ExpressionForm, name_expression, basic_literal, function_literal, composite_literal, literal_value, key_value, parenthesized, selector_expression, index_expression, instance_expression, slice_expression, type_assertion, call_expression, star_expression, unary_expression, binary_expression, array_type, ellipsis_array_type, slice_type, map_type, channel_type, function_type, struct_type, interface_type, Expressions, no_expression, expression_and, OptionalExpression, missing_expression, present_expression, Signature, signature_of, Parameters, no_parameter, named_and, unnamed_and, name_alone_and, Fields, no_field, fields_and, embedded_and, element_and, method_and, Statement, statement_node, StatementForm, empty_statement, declaration_statement, labeled_statement, expression_statement, send_statement, increment_statement, decrement_statement, assignment, operator_assignment, define_statement, go_statement, defer_statement, return_statement, break_statement, continue_statement, goto_statement, fallthrough_statement, block_statement, if_statement, for_statement, range_assignment, range_definition, switch_statement, type_switch_statement, select_statement, Statements, no_statement, statement_and, OptionalStatement, missing_statement, present_statement, CaseClauses, no_case, case_and, CommunicationClauses, no_communication, communication_and, Declaration, declaration_of, Specs, no_spec, value_and, type_and, Block, Function, TopLevelDeclaration, function_declaration, general_declaration, ImportSpec, SourceFile}
use Rattle.meaning.specs.Scopes.{is_blank, parameters_named, named_in_types}
use Rattle.meaning.specs.OuterBlocks.{specs_of}
use Rattle.meaning.specs.Mentions.{Named, bare, as_bare, as_named, as_bracketed, as_pointer, as_new_literal, select_from, embedded, defines, assigns, declares, Standing, ordinary, first_of_for, communication, Row, CallPlace, nowhere, as_statement, only_value, return_item, deferred, place_in, Call, call_of, is_none_left, LiteralUse, other_use, deferred_call, started_by, Role, elsewhere, as_key, called, called_in_brackets, argument, returned, left, names_type, new_literal, parameter_pointer, BodyPlace, Mark, mentions, runs_literal, returns, opens, closes, Spot, part_of, whole, mention, declaring, number_of, name_role, named_or, callee_or, addressed, argument_or, argument_at, new_literal_or, deferral, literal_body, in_body, parameter_type_or, value_spot, left_names, declared_elsewhere, guard_in_clause, row_of, expression_marks, form_marks, expressions_marks, optional_marks, arguments_marks, items_marks, lefts_marks, names_type_marks, signature_marks, parameters_marks, fields_marks, statement_marks, statement_form_marks, statements_marks, optional_statement_marks, cases_marks, communications_marks, declaration_marks, specs_marks, type_parameters_marks, receiver_marks, function_body, function_types_marks, function_marks, outer_specs_marks, top_level_marks, top_levels_marks, file_marks, exposed, addressed_within, bare_within, ranged_marks, found_nil, NilTest, nil_marks, nil_where, found_error, error_where, error_marks, row_in, first_row, guard_marks, behind_row, marks_by, pointed_to, under_go, of_fields, Assigned, callee_spot, argument_spot, argument_taker, receiver_given, field_called, field_written, given_to, literal_given_to, sent, rights_given, is_one, guard_renewed, communication_given, arguments_place, imports_all, is_dot, import_marks, at_return, in_goroutine, call_under_go}
use Rattle.meaning.specs.Tracked.{field_left, other_left, left_name, left_of_name, left_of_expression, lefts_of_expressions, lefts_of, Placed, placed, outer}
use Rattle.meaning.proofs.Membership.{contains_here, contains_there, contains_cases, contains_nil}
use Rattle.tree.specs.declared.edition.Edition.{Edition}
use Rattle.meaning_runs.proofs.EditionMarks.{placed_among}
use Rattle.meaning_runs.proofs.FieldMarks.{FieldsOnly, no_more, and_one, Any, any, called_only, given_only, literal_only, receiver_only, rights_only, sent_only, communication_only, guard_only, written_only}

-- the name with what it declares is the left side that the role says
abbrev pub Fits : Named → Option ℕ → Role → Type 0
Fits n declared (left k row) = slice_get (lefts_of row.form) k ≡ Some (left_name n declared)
Fits n declared elsewhere = Unit {0}
Fits n declared as_key = Unit {0}
Fits n declared exposed = Unit {0}
Fits n declared pointed_to = Unit {0}
Fits n declared (found_nil nil) = Unit {0}
Fits n declared (found_error nil row) = Unit {0}
Fits n declared (called c) = Unit {0}
Fits n declared called_in_brackets = Unit {0}
Fits n declared (argument k has_address c) = Unit {0}
Fits n declared (returned k) = Unit {0}
Fits n declared (names_type row) = Unit {0}
Fits n declared (new_literal row) = Unit {0}
Fits n declared parameter_pointer = Unit {0}

abbrev pub Stands : Mark → Type 0
Stands (mentions m) = Fits m.named m.declares m.role
Stands (of_fields site m) = Unit {0}
Stands (runs_literal moment site at) = Unit {0}
Stands (returns at es) = Unit {0}
Stands (opens b) = Unit {0}
Stands closes = Unit {0}

-- The same of a mark inside an expression, a type or a statement, where each body is that of a literal, which has no
-- name.
abbrev pub Inside : Mark → Type 0
Inside (mentions m) = Fits m.named m.declares m.role
Inside (of_fields site m) = Unit {0}
Inside (runs_literal moment site at) = Unit {0}
Inside (returns at es) = Unit {0}
Inside (opens b) = b.name ≡ None
Inside closes = Unit {0}

stands : (m : Mark) → Inside m → Stands m
stands (mentions m) h = h
stands (of_fields site m) h = tt
stands (runs_literal moment site at) h = tt
stands (returns at es) h = tt
stands (opens b) h = tt
stands closes h = tt

pub record AllStand (ms : List Mark) : Type 0 where
  pub each : (m : Mark) → Contains ms m → Inside m

none : AllStand []
none = record { each = λ m h. absurd (contains_nil m h) }

and_then : (x : Mark) (xs : List Mark) → Inside x → AllStand xs → AllStand (x ∷ xs)
and_then x xs s h = record {
  each = λ m k. elim (contains_cases x m xs k) [ inl q ↦ subst Inside q s | inr r ↦ h.each m r ];
}

both : {xs ys : List Mark} → AllStand xs → AllStand ys → AllStand (xs ++ ys)
both {xs} {ys} h k = record {
  each = λ m among. elim (Contains-append_cases xs ys m among) [ inl r ↦ h.each m r | inr r ↦ k.each m r ];
}

only : (x : Mark) → Inside x → AllStand (x ∷ [])
only x s = and_then x [] s none

chosen : (b : Bool) {xs ys : List Mark} → AllStand xs → AllStand ys → AllStand (if b then xs else ys)
chosen true h k = h
chosen false h k = k

-- marks of fields
fields : {site : ℕ} (ms : List Mark) → FieldsOnly Any site ms → AllStand ms
fields ms no_more = none
fields ms (and_one {ms = rest} m p h) = and_then (of_fields _ m) rest tt (fields rest h)

-- The left side of an expression: a name, a field of one, or neither.
pub left_cases : (e : Expression) → ((n : Named) × (as_bare e ≡ Some n) × (left_of_expression e ≡ left_name n None))
    ⊎ ((as_bare e ≡ None) × (((at : ℕ) × (left_of_expression e ≡ field_left at)) ⊎ (left_of_expression e ≡ other_left)))
left_cases (expression_node (name_expression text) span) = inl (bare text span.start, refl, refl)
left_cases (expression_node (selector_expression (expression_node (name_expression n) at) f) span) =
    inr (refl, inl (f.span.start, refl))
left_cases e = inr (refl, inr refl)

left_of_bare : (e : Expression) (n : Named) → as_bare e ≡ Some n → left_of_expression e ≡ left_name n None
left_of_bare e n is = elim (left_cases e) [
  | inl r ↦ r.2 ∙ ap (λ m. left_name m None) (same_Some r.0 n (sym r.1 ∙ is))
  | inr r ↦ absurd (none-some n (sym r.0 ∙ is))
]

-- what is left of a list from a place on
plus_one : (k : ℕ) → k + 1 ≡ suc k
plus_one k = omega arith

at_place : {X : Type 0} (k : ℕ) (ls : List X) (x : X) (xs : List X) → drop k ls ≡ x ∷ xs → slice_get ls k ≡ Some x
at_place zero [] x xs e = let bad : [] ≡ x ∷ xs = e in cc
at_place zero (y ∷ ys) x xs e = let same : y ≡ x = cc in ap Some same
at_place (suc k) [] x xs e = let bad : [] ≡ x ∷ xs = e in cc
at_place (suc k) (y ∷ ys) x xs e = at_place k ys x xs e

behind : {X : Type 0} (k : ℕ) (ls : List X) (x : X) (xs : List X) → drop k ls ≡ x ∷ xs → drop (suc k) ls ≡ xs
behind zero [] x xs e = let bad : [] ≡ x ∷ xs = e in cc
behind zero (y ∷ ys) x xs e = cc
behind (suc k) [] x xs e = let bad : [] ≡ x ∷ xs = e in cc
behind (suc k) (y ∷ ys) x xs e = behind k ys x xs e

next_place : {X : Type 0} (k : ℕ) (ls : List X) (x : X) (xs : List X) → drop k ls ≡ x ∷ xs → drop (k + 1) ls ≡ xs
next_place k ls x xs e = subst (λ j. drop j ls ≡ xs) (sym (plus_one k)) (behind k ls x xs e)

-- names
named : (o : Option Named) (site : ℕ) (role : Role) {ms : List Mark} → ((n : Named) → o ≡ Some n → Fits n None role) → AllStand ms → AllStand (named_or o site role ms)
named None site role f h = h
named (Some n) site role f h = only (mention site role n) (f n refl)

name_fits : (place : CallPlace) (n : Named) → Fits n None (name_role place)
name_fits nowhere n = tt
name_fits as_statement n = tt
name_fits (only_value row) n = tt
name_fits (return_item k) n = tt
name_fits deferred n = tt
name_fits under_go n = tt

callee_named : (c : Option Call) (site : ℕ) (e : Expression) {ms : List Mark} → AllStand ms → AllStand (callee_or c site e ms)
callee_named None site e h = named (as_bracketed e) site called_in_brackets (λ n q. tt) h
callee_named (Some c) site e h = only (mention site (called c) c.callee) tt

argued : (c : Call) (site k : ℕ) (e : Expression) {ms : List Mark} → AllStand ms → AllStand (argument_or c site k e ms)
argued c site k (expression_node (unary_expression op e) span) h =
    named (addressed op e) site (argument k true c) (λ n q. tt) h
argued c site k e h = named (as_named e) site (argument k false c) (λ n q. tt) h

argued_at : (c : Option Call) (site k : ℕ) (is_last : Bool) (e : Expression) {ms : List Mark} → AllStand ms → AllStand (argument_at c site k is_last e ms)
argued_at None site k is_last e h = h
argued_at (Some c) site k is_last e h = chosen (is_last && c.has_ellipsis) h (argued c site k e h)

newly : (place : CallPlace) (site : ℕ) (n : Option Named) {ms : List Mark} → AllStand ms → AllStand (new_literal_or place site n ms)
newly nowhere site n h = h
newly as_statement site n h = h
newly (only_value row) site n h = named n site (new_literal row) (λ m q. tt) h
newly (return_item k) site n h = h
newly deferred site n h = h
newly under_go site n h = h

deferring : (used : LiteralUse) (site at : ℕ) → AllStand (deferral used site at)
deferring other_use site at = none
deferring deferred_call site at = only (runs_literal at_return site at) tt
deferring call_under_go site at = only (runs_literal in_goroutine site at) tt
deferring (started_by n) site at = none

within : (b : BodyPlace) {ms : List Mark} → b.name ≡ None → AllStand ms → AllStand (in_body b ms)
within b {ms} e h = and_then (opens b) (ms ++ closes ∷ []) e (both h (only closes tt))

typed : (is_plain : Bool) (t : Expression) (site : ℕ) {ms : List Mark} → AllStand ms → AllStand (parameter_type_or is_plain t site ms)
typed is_plain t site h =
    chosen is_plain (named (as_pointer t) site parameter_pointer (λ n q. tt) h) h

names : (row : Row) (site k : ℕ) (ns : List Identifier) → drop k (lefts_of row.form) ≡ map left_of_name ns → AllStand (left_names row site k ns)
names row site k [] e = none
names row site k (n ∷ ns) e =
    and_then (declaring site (left k row) n (number_of n)) (left_names row site (k + 1) ns) (at_place k (lefts_of row.form) (left_of_name n) (map left_of_name ns) e) (names row site (k + 1) ns (next_place k (lefts_of row.form) (left_of_name n) (map left_of_name ns) e))

names_elsewhere : (site : ℕ) (ns : List Identifier) → AllStand (declared_elsewhere site ns)
names_elsewhere site [] = none
names_elsewhere site (n ∷ ns) =
    and_then (declaring site exposed n (number_of n)) (declared_elsewhere site ns) tt (names_elsewhere site ns)

nil_stand : (site : ℕ) (ts : List NilTest) → AllStand (nil_marks site ts)
nil_stand site [] = none
nil_stand site (t ∷ ts) = and_then (mention site (found_nil t.nil) t.named) (nil_marks site ts) tt (nil_stand site ts)

error_stand : (site : ℕ) (row : Row) (ts : List NilTest) → AllStand (error_marks site row ts)
error_stand site row [] = none
error_stand site row (t ∷ ts) =
    and_then (mention site (found_error t.nil row) t.named) (error_marks site row ts) tt (error_stand site row ts)

guard_stand : (row : Option Row) (c : Expression) (braces : Span) → AllStand (guard_marks row c braces)
guard_stand None c braces = none
guard_stand (Some row) c braces =
    both (error_stand braces.start row (error_where true c)) (error_stand (braces.end - 1) row (error_where false c))

behind_stand : (row : Option Row) (ss : Statements) → AllStand (behind_row row ss)
behind_stand row (statement_and (statement_node (if_statement missing_statement semicolon c ss braces other) span) rest) =
    guard_stand row c braces
behind_stand row ss = none

guarded : (site : ℕ) (n : Option Identifier) (clause : Span) → AllStand (guard_in_clause site n clause)
guarded site None clause = none
guarded site (Some n) clause =
    chosen (is_blank n.text) none (only (declaring site exposed n (Some clause.start)) tt)

writes : (site : ℕ) (by : Option Assigned) (e : Expression) → AllStand (field_written site by e)
writes site by e = fields (field_written site by e) (written_only Any any site by e (λ l q. tt))

mutual
  unfolding expression_marks form_marks expressions_marks optional_marks arguments_marks items_marks lefts_marks ranged_marks names_type_marks signature_marks parameters_marks fields_marks statement_marks statement_form_marks statements_marks optional_statement_marks cases_marks communications_marks declaration_marks specs_marks

  of_expression : (spot : Spot) (e : Expression) → AllStand (expression_marks spot e)
  of_expression spot (expression_node form span) = of_form spot span form

  of_form : (spot : Spot) (span : Span) (form : ExpressionForm) → AllStand (form_marks spot span form)
  of_form spot span (name_expression text) =
      only (mention spot.site (name_role spot.place) (bare text span.start)) (name_fits spot.place (bare text span.start))
  of_form spot span (basic_literal kind) = none
  of_form spot span (function_literal signature ss braces) =
      both (within (literal_body spot.literal span.start signature ss braces) refl (both (of_signature span.start signature) (of_statements ss)))
      (both (deferring spot.literal spot.site span.start)
      (fields (literal_given_to spot.site spot.taker span.start) (literal_only Any any spot.site spot.taker span.start)))
  of_form spot span (composite_literal t es) =
      both (of_expression (part_of spot.site) t) (of_expressions (part_of spot.site) es)
  of_form spot span (literal_value es) = of_expressions (part_of spot.site) es
  of_form spot span (key_value k v) =
      both (named (as_bare k) spot.site as_key (λ n q. tt) (of_expression (part_of spot.site) k))
      (of_expression (part_of spot.site) v)
  of_form spot span (parenthesized e) = of_expression (part_of spot.site) e
  of_form spot span (selector_expression e n) =
      named (select_from (as_bare e) n) spot.site elsewhere (λ m q. tt) (of_expression (part_of spot.site) e)
  of_form spot span (index_expression e i) =
      both (of_expression (part_of spot.site) e) (of_expression (part_of spot.site) i)
  of_form spot span (instance_expression e es) =
      both (of_expression (part_of spot.site) e) (of_expressions (part_of spot.site) es)
  of_form spot span (slice_expression e low high most) =
      both (of_expression (part_of spot.site) e) (both (of_optional spot.site low) (both (of_optional spot.site high) (of_optional spot.site most)))
  of_form spot span (type_assertion e t) =
      both (of_expression (part_of spot.site) e) (of_expression (part_of spot.site) t)
  of_form spot span (call_expression e es ellipsis) =
      both (fields (receiver_given spot.place spot.site e) (receiver_only Any any spot.place spot.site e))
      (both (of_arguments (arguments_place spot.place e) (call_of spot.place e es ellipsis) spot.site 0 es)
      (both (callee_named (call_of spot.place e es ellipsis) spot.site e (of_expression (callee_spot spot) e))
      (fields (field_called spot.site e) (called_only Any any spot.site e))))
  of_form spot span (star_expression e) = of_expression (part_of spot.site) e
  of_form spot span (unary_expression op e) =
      newly spot.place spot.site (as_new_literal op e)
      (named (addressed_within op e) spot.site pointed_to (λ n q. tt) (of_expression (part_of spot.site) e))
  of_form spot span (binary_expression op l r) =
      both (of_expression (part_of spot.site) l) (of_expression (part_of spot.site) r)
  of_form spot span (array_type n t) =
      both (of_expression (part_of spot.site) n) (of_expression (part_of spot.site) t)
  of_form spot span (ellipsis_array_type t) = of_expression (part_of spot.site) t
  of_form spot span (slice_type t) = of_expression (part_of spot.site) t
  of_form spot span (map_type k t) =
      both (of_expression (part_of spot.site) k) (of_expression (part_of spot.site) t)
  of_form spot span (channel_type direction t) = of_expression (part_of spot.site) t
  of_form spot span (function_type signature) = of_signature spot.site signature
  of_form spot span (struct_type fs) = of_members spot.site fs
  of_form spot span (interface_type fs) = of_members spot.site fs

  of_expressions : (spot : Spot) (es : Expressions) → AllStand (expressions_marks spot es)
  of_expressions spot no_expression = none
  of_expressions spot (expression_and e es) = both (of_expression spot e) (of_expressions spot es)

  of_optional : (site : ℕ) (e : OptionalExpression) → AllStand (optional_marks site e)
  of_optional site missing_expression = none
  of_optional site (present_expression e) = of_expression (part_of site) e

  of_arguments : (place : CallPlace) (c : Option Call) (site k : ℕ) (es : Expressions)
      → AllStand (arguments_marks place c site k es)
  of_arguments place c site k no_expression = none
  of_arguments place c site k (expression_and e es) =
      both (argued_at c site k (is_none_left es) e (of_expression (argument_spot place c site) e))
      (both (fields (given_to site (argument_taker place c) e) (given_only Any any site (argument_taker place c) e))
      (of_arguments place c site (k + 1) es))

  of_items : (site k : ℕ) (es : Expressions) → AllStand (items_marks site k es)
  of_items site k no_expression = none
  of_items site k (expression_and e es) =
      both (of_expression (whole (return_item k) site) e) (of_items site (k + 1) es)

  of_ranged : (site : ℕ) (es : Expressions) → AllStand (ranged_marks site es)
  of_ranged site no_expression = none
  of_ranged site (expression_and e es) =
      both (named (bare_within e) site exposed (λ n q. tt) (of_expression (part_of site) e))
      (both (writes site None e) (of_ranged site es))

  of_lefts : (row : Row) (site k : ℕ) (es : Expressions) → drop k (lefts_of row.form) ≡ lefts_of_expressions es → AllStand (lefts_marks row site k es)
  of_lefts row site k no_expression q = none
  of_lefts row site k (expression_and e es) q =
      both (named (as_bare e) site (left k row)
      (λ n is. at_place k (lefts_of row.form) (left_of_expression e) (lefts_of_expressions es) q ∙ ap Some (left_of_bare e n is))
      (named (bare_within e) site exposed (λ n q. tt) (of_expression (part_of site) e)))
      (both (writes site (Some record { left_side = k; row = row }) e)
      (of_lefts row site (k + 1) es (next_place k (lefts_of row.form) (left_of_expression e) (lefts_of_expressions es) q)))

  of_names_type : (row : Row) (site : ℕ) (t : OptionalExpression) → AllStand (names_type_marks row site t)
  of_names_type row site missing_expression = none
  of_names_type row site (present_expression t) =
      named (as_named t) site (names_type row) (λ n q. tt) (of_expression (part_of site) t)

  of_signature : (site : ℕ) (s : Signature) → AllStand (signature_marks site s)
  of_signature site (signature_of ps rs brackets) = both (of_parameters true site ps) (of_parameters false site rs)

  of_parameters : (are_parameters : Bool) (site : ℕ) (ps : Parameters) → AllStand (parameters_marks are_parameters site ps)
  of_parameters are_parameters site no_parameter = none
  of_parameters are_parameters site (named_and n ellipsis t ps) =
      both (typed (are_parameters && not ellipsis) t site (of_expression (part_of site) t)) (of_parameters are_parameters site ps)
  of_parameters are_parameters site (unnamed_and ellipsis t ps) =
      both (typed (are_parameters && not ellipsis) t site (of_expression (part_of site) t)) (of_parameters are_parameters site ps)
  of_parameters are_parameters site (name_alone_and n ps) = of_parameters are_parameters site ps

  of_members : (site : ℕ) (fs : Fields) → AllStand (fields_marks site fs)
  of_members site no_field = none
  of_members site (fields_and ns t tag span fs) = both (of_expression (part_of site) t) (of_members site fs)
  of_members site (embedded_and star n tag span fs) =
      and_then (mention site elsewhere (embedded n)) (fields_marks site fs) tt (of_members site fs)
  of_members site (element_and star t tag span fs) = both (of_expression (part_of site) t) (of_members site fs)
  of_members site (method_and n signature span fs) = both (of_signature site signature) (of_members site fs)

  of_statement : (standing : Standing) (s : Statement) → AllStand (statement_marks standing s)
  of_statement standing (statement_node form span) = of_statement_form standing span.start form

  of_statement_form : (standing : Standing) (at : ℕ) (form : StatementForm) → AllStand (statement_form_marks standing at form)
  of_statement_form standing at empty_statement = none
  of_statement_form standing at (declaration_statement d) = of_declaration d
  of_statement_form standing at (labeled_statement n s) = of_statement standing s
  of_statement_form standing at (expression_statement e) =
      of_expression (whole (place_in standing as_statement) at) e
  of_statement_form standing at (send_statement c v) =
      both (of_expression (part_of at) c)
      (both (of_expression (part_of at) v) (fields (sent standing at v) (sent_only Any any standing at v)))
  of_statement_form standing at (increment_statement e) =
      both (named (bare_within e) at exposed (λ n q. tt) (of_expression (part_of at) e)) (writes at None e)
  of_statement_form standing at (decrement_statement e) =
      both (named (bare_within e) at exposed (λ n q. tt) (of_expression (part_of at) e)) (writes at None e)
  of_statement_form standing at (assignment ls rs) =
      both (of_expressions (value_spot (row_of standing at (assigns ls) rs) at) rs)
      (both (fields (rights_given at (is_one rs) ls rs) (rights_only Any any at (is_one rs) ls rs))
      (of_lefts (row_of standing at (assigns ls) rs) at 0 ls refl))
  of_statement_form standing at (operator_assignment op l r) =
      both (named (bare_within l) at exposed (λ n q. tt) (of_expression (part_of at) l))
      (both (of_expression (part_of at) r) (writes at None l))
  of_statement_form standing at (define_statement ns rs) =
      both (of_expressions (value_spot (row_of standing at (defines ns) rs) at) rs) (names (row_of standing at (defines ns) rs) at 0 ns refl)
  of_statement_form standing at (go_statement e) = of_expression (whole under_go at) e
  of_statement_form standing at (defer_statement e) = of_expression (whole deferred at) e
  of_statement_form standing at (return_statement es) = both (of_items at 0 es) (only (returns at es) tt)
  of_statement_form standing at (break_statement n) = none
  of_statement_form standing at (continue_statement n) = none
  of_statement_form standing at (goto_statement n) = none
  of_statement_form standing at fallthrough_statement = none
  of_statement_form standing at (block_statement ss braces) = of_statements ss
  of_statement_form standing at (if_statement init has_semicolon c ss braces otherwise) =
      both (of_optional_statement ordinary init) (both (of_expression (part_of at) c)
      (both (guard_stand (first_row init) c braces)
      (both (both (nil_stand braces.start (nil_where true c)) (both (of_statements ss)
      (nil_stand (braces.end - 1) (nil_where false c)))) (of_optional_statement ordinary otherwise))))
  of_statement_form standing at (for_statement init c post has_semicolons ss braces) =
      both (of_optional_statement first_of_for init) (both (of_optional at c) (both (of_optional_statement ordinary post) (of_statements ss)))
  of_statement_form standing at (range_assignment ls e ss braces) =
      both (of_ranged at ls) (both (of_expression (part_of at) e) (of_statements ss))
  of_statement_form standing at (range_definition ns e ss braces) =
      both (of_expression (part_of at) e) (both (names_elsewhere at ns) (of_statements ss))
  of_statement_form standing at (switch_statement init has_semicolon tag cs) =
      both (of_optional_statement ordinary init) (both (of_optional at tag) (of_cases at None cs))
  of_statement_form standing at (type_switch_statement init has_semicolon n e cs) =
      both (of_optional_statement ordinary init) (both (of_expression (part_of at) e) (of_cases at n cs))
  of_statement_form standing at (select_statement cs) = of_communications cs

  of_statements : (ss : Statements) → AllStand (statements_marks ss)
  of_statements no_statement = none
  of_statements (statement_and s ss) = both (of_statement ordinary s) (both (behind_stand (row_in s) ss) (of_statements ss))

  of_optional_statement : (standing : Standing) (s : OptionalStatement) → AllStand (optional_statement_marks standing s)
  of_optional_statement standing missing_statement = none
  of_optional_statement standing (present_statement s) = of_statement standing s

  of_cases : (at : ℕ) (guard : Option Identifier) (cs : CaseClauses) → AllStand (cases_marks at guard cs)
  of_cases at guard no_case = none
  of_cases at guard (case_and es ss span cs) =
      both (guarded at guard span) (both (fields (guard_renewed guard span) (guard_only Any any guard span))
      (both (of_expressions (part_of span.start) es) (both (of_statements ss) (of_cases at guard cs))))

  of_communications : (cs : CommunicationClauses) → AllStand (communications_marks cs)
  of_communications no_communication = none
  of_communications (communication_and c ss span cs) =
      both (of_optional_statement communication c)
      (both (fields (communication_given span.start c) (communication_only Any any span.start c))
      (both (of_statements ss) (of_communications cs)))

  of_declaration : (d : Declaration) → AllStand (declaration_marks d)
  of_declaration (declaration_of keyword specs is_grouped span) = of_specs keyword span.start specs

  of_specs : (keyword : DeclKeyword) (at : ℕ) (specs : Specs) → AllStand (specs_marks keyword at specs)
  of_specs keyword at no_spec = none
  of_specs keyword at (value_and ns t es span specs) =
      both (of_names_type (row_of ordinary at (declares keyword ns t) es) span.start t) (both (of_expressions (value_spot (row_of ordinary at (declares keyword ns t) es) span.start) es) (both (names (row_of ordinary at (declares keyword ns t) es) span.start 0 ns refl) (of_specs keyword at specs)))
  of_specs keyword at (type_and n ps is_alias t span specs) =
      and_then (declaring span.start exposed n (number_of n))
      (declared_elsewhere span.start (parameters_named ps)
      ++ (parameters_marks false span.start ps ++ (expression_marks (part_of span.start) t ++ specs_marks keyword at specs)))
      tt
      (both (names_elsewhere span.start (parameters_named ps))
      (both (of_parameters false span.start ps) (both (of_expression (part_of span.start) t) (of_specs keyword at specs))))

of_receiver : (site : ℕ) (ps : Option Parameters) → AllStand (receiver_marks site ps)
of_receiver site None = none
of_receiver site (Some ps) = both (names_elsewhere site (named_in_types ps)) (of_parameters true site ps)

of_type_parameters : (site : ℕ) (ps : Parameters) → AllStand (type_parameters_marks site ps)
of_type_parameters site ps = both (names_elsewhere site (parameters_named ps)) (of_parameters false site ps)

pub of_types : (f : Function) → AllStand (function_types_marks f)
of_types f =
    both (of_receiver f.span.start f.receiver)
    (both (of_type_parameters f.span.start f.type_parameters) (of_signature f.span.start f.signature))

pub of_outer_specs : (specs : Specs) → AllStand (outer_specs_marks specs)
of_outer_specs no_spec = none
of_outer_specs (value_and ns t es span specs) =
    both (of_optional span.start t) (both (of_expressions (part_of span.start) es) (of_outer_specs specs))
of_outer_specs (type_and n ps is_alias t span specs) =
    both (of_type_parameters span.start ps) (both (of_expression (part_of span.start) t) (of_outer_specs specs))

pub of_block : (f : Function) (b : Block) → AllStand ((function_types_marks f ++ statements_marks b.statements) ++ closes ∷ [])
of_block f b = both (both (of_types f) (of_statements b.statements)) (only closes tt)

of_function : (f : Function) (b : Option Block) (m : Mark) → Contains (function_marks f b) m → Stands m
of_function f None m h = stands m ((of_types f).each m h)
of_function f (Some b) m h =
    elim (contains_cases (opens (function_body f b)) m ((function_types_marks f ++ statements_marks b.statements) ++ closes ∷ []) h) [
      | inl q ↦ subst Stands q tt
      | inr r ↦ stands m ((of_block f b).each m r)
    ]

of_top_level : (d : TopLevelDeclaration) (m : Mark) → Contains (top_level_marks d) m → Stands m
of_top_level (function_declaration f) m h = of_function f f.body m h
of_top_level (general_declaration (declaration_of keyword specs is_grouped span)) m h =
    stands m ((of_outer_specs specs).each m h)

of_top_levels : (ds : List TopLevelDeclaration) (m : Mark) → Contains (top_levels_marks ds) m → Stands m
of_top_levels [] m h = absurd (contains_nil m h)
of_top_levels (d ∷ ds) m h = elim (Contains-append_cases (top_level_marks d) (top_levels_marks ds) m h) [
  | inl r ↦ of_top_level d m r
  | inr r ↦ of_top_levels ds m r
]

pub of_imports : (specs : List ImportSpec) → AllStand (import_marks specs)
of_imports [] = none
of_imports (s ∷ ss) = both (chosen (is_dot s.name) (only (of_fields s.span.start imports_all) tt) none) (of_imports ss)

of_file : (file : SourceFile) (m : Mark) → Contains (file_marks file) m → Stands m
of_file file m h =
    elim (Contains-append_cases (import_marks (specs_of file.imports)) (top_levels_marks file.declarations) m h) [
      | inl r ↦ stands m ((of_imports (specs_of file.imports)).each m r)
      | inr r ↦ of_top_levels file.declarations m r
    ]

-- a mark that is placed is one of the marks
pub is_placed : (bodies : List BodyPlace) (ms : List Mark) (p : Placed) → Contains (placed bodies ms) p → Contains ms p.mark
unfolding placed
is_placed bodies [] p h = absurd (contains_nil p h)
is_placed bodies (mentions m ∷ ms) p h = elim (contains_cases _ p (placed bodies ms) h) [
  | inl q ↦ subst (λ (x : Placed). Contains (mentions m ∷ ms) x.mark) q (contains_here (mentions m) ms)
  | inr r ↦ contains_there (mentions m) p.mark ms (is_placed bodies ms p r)
]
is_placed bodies (of_fields site m ∷ ms) p h = elim (contains_cases _ p (placed bodies ms) h) [
  | inl q ↦ subst (λ (x : Placed). Contains (of_fields site m ∷ ms) x.mark) q (contains_here (of_fields site m) ms)
  | inr r ↦ contains_there (of_fields site m) p.mark ms (is_placed bodies ms p r)
]
is_placed bodies (runs_literal moment site at ∷ ms) p h = elim (contains_cases _ p (placed bodies ms) h) [
  | inl q ↦ subst (λ (x : Placed). Contains (runs_literal moment site at ∷ ms) x.mark) q (contains_here (runs_literal moment site at) ms)
  | inr r ↦ contains_there (runs_literal moment site at) p.mark ms (is_placed bodies ms p r)
]
is_placed bodies (returns at es ∷ ms) p h = elim (contains_cases _ p (placed bodies ms) h) [
  | inl q ↦ subst (λ (x : Placed). Contains (returns at es ∷ ms) x.mark) q (contains_here (returns at es) ms)
  | inr r ↦ contains_there (returns at es) p.mark ms (is_placed bodies ms p r)
]
is_placed bodies (opens b ∷ ms) p h = elim (contains_cases _ p (placed (b ∷ bodies) ms) h) [
  | inl q ↦ subst (λ (x : Placed). Contains (opens b ∷ ms) x.mark) q (contains_here (opens b) ms)
  | inr r ↦ contains_there (opens b) p.mark ms (is_placed (b ∷ bodies) ms p r)
]
is_placed bodies (closes ∷ ms) p h = contains_there closes p.mark ms (is_placed (outer bodies) ms p h)

-- of each mark of a file
pub left_sides_fit : (edition : Edition) (some_keep : Bool) (file : SourceFile) (p : Placed)
    → Contains (placed [] (marks_by edition some_keep (file_marks file))) p
    → Stands p.mark
left_sides_fit edition some_keep file p h =
    of_file file p.mark
    (is_placed [] (file_marks file) p (placed_among edition some_keep (file_marks file) p h))

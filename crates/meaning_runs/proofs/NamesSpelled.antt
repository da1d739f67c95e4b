-- What is spelled within a text has its names there: of expressions, signatures and statements.
use Rattle.std.proofs.Common.{◌≡◌, ℕ, ◌≤◌, Bool, true, false, List, [], ◌++◌, Option, None, sym, subst, arith, append_assoc, append-nil, refl}
use Rattle.std.specs.Prelude.{◌&&◌, not, ◌-◌}
use Rattle.tree.specs.declared.span.Span.{Span}
use Rattle.tree.specs.declared.operator.DeclKeyword.{DeclKeyword}
use Rattle.tree.specs.Syntax.{Identifier, Expression, expression_node, ExpressionForm, name_expression, basic_literal, function_literal, composite_literal, literal_value, key_value, parenthesized, selector_expression, index_expression, instance_expression, slice_expression, type_assertion, call_expression, star_expression, unary_expression, binary_expression, array_type, ellipsis_array_type, slice_type, map_type, channel_type, function_type, struct_type, interface_type, Expressions, no_expression, expression_and, OptionalExpression, missing_expression, present_expression, Signature, signature_of, Parameters, no_parameter, named_and, unnamed_and, name_alone_and, Fields, no_field, fields_and, embedded_and, element_and, method_and, Statement, statement_node, StatementForm, empty_statement, declaration_statement, labeled_statement, expression_statement, send_statement, increment_statement, decrement_statement, assignment, operator_assignment, define_statement, go_statement, defer_statement, return_statement, break_statement, continue_statement, goto_statement, fallthrough_statement, block_statement, if_statement, for_statement, range_assignment, range_definition, switch_statement, type_switch_statement, select_statement, Statements, no_statement, statement_and, OptionalStatement, missing_statement, present_statement, CaseClauses, no_case, case_and, CommunicationClauses, no_communication, communication_and, Declaration, declaration_of, Specs, no_spec, value_and, type_and}
use Rattle.meaning.specs.Mentions.{as_named, as_new_literal, embedded, defines, assigns, declares, Standing, ordinary, first_of_for, communication, Row, as_statement, deferred, place_in, call_of, elsewhere, names_type, Mark, returns, Spot, part_of, whole, mention, literal_body, value_spot, row_of, expression_marks, form_marks, expressions_marks, optional_marks, arguments_marks, items_marks, names_type_marks, signature_marks, parameters_marks, fields_marks, statement_marks, statement_form_marks, statements_marks, optional_statement_marks, cases_marks, communications_marks, declaration_marks, specs_marks, addressed_within, ranged_marks, row_in, first_row, pointed_to, under_go, callee_spot, literal_given_to, receiver_given, field_called, sent, rights_given, is_one, guard_renewed, communication_given, arguments_place}
use Rattle.meaning.specs.Scopes.{parameters_named}
use Rattle.meaning.specs.Cursor.{GoText, Cursor, Rule, ◌⇒◌, nothing, spanning}
use Rattle.meaning.specs.Grammar.{Position, as_type, as_expression, as_value, as_element, as_constraint, inside, operand, element_place, statement_start, of_struct, of_interface, Owner, IsMissing, IsLast, SpellsExpression, SpellsForm, SpellsExpressions, SpellsMore, SpellsOptional, SpellsSignature, SpellsResult, SpellsItems, SpellsTypeParameters, SpellsFields, SpellsStatement, SpellsStatementForm, SpellsOptionalStatement, SpellsElse, SpellsStatements, SpellsCases, SpellsCommunications, SpellsDeclaration, SpellsSpecs}
use Rattle.meaning_runs.specs.NamePlaces.{PlaceStandsWithin, ParametersStandWithin, SignatureStandsWithin, FieldStandsWithin}
use Rattle.meaning_runs.proofs.NameRules.{IsInside, Says, AllStandWithin, EachIn, none_lie, lie_and, one_lies, both_lie, start_in, says_nothing, keeps_nothing, says_never, keeps_not_before, keeps_token, says_both, behind, ending, knowing, says_chosen, so, given, spanned, spanned_at, keeps_only_if, enclosed, keeps_semicolon, keeps_semicolons, keeps_word, says_identifier, keeps_optional_identifier, says_identifiers, both, turned, moved, no_marks, keeps, says_too}
use Rattle.meaning_runs.proofs.NameParts.{name_there, new_there, in_place, selected, callee_by, newly, typed, role_of_name, value_place, statement_place, names_lie, elsewhere_lie, NameIn, guard_lies, deferral_lies, body_lies, keeps_end_of_name, keeps_end_of_selector, keeps_end_of_type, keeps_channel, keeps_assign_operator, keeps_tag, keeps_before_item, keeps_after_items, says_type_name, keeps_after_instance, says_after_name, says_guard_name, says_arguments, says_perhaps, says_elements, says_range_left, says_case_head, says_third_bound, says_initial, says_communication, EachSays, says_expressions, says_argument_list, says_items, says_lefts, addressed_within_there, says_ranged, nil_lie, exposed_in, row_guard_lies, behind_lies, FieldIn, no_write_there, selected_field, bracketed_field, fields_lie, written_lie, no_field_in, keyed}
use Rattle.meaning_runs.proofs.BodyOffsetsSpelled.{missing_gives_none, missing_statement_gives_none, no_expressions, no_arguments, no_items, three_and_one, no_specs_left, no_ranged}
use Rattle.meaning_runs.proofs.FieldMarks.{literal_only, receiver_only, called_only, sent_only, rights_only, guard_only, communication_only}

-- a statement begins there
statement_in : (n : ℕ) (form : StatementForm) (from : Cursor) → IsInside n from → statement_start form from ≤ n
statement_in n empty_statement from k = k.end
statement_in n _ from k = start_in n from k

module _ (n : ℕ) where
  pub says_last : (ms : List Mark) (specs : Specs) → (IsLast specs → ms ≡ []) → Says n (AllStandWithin n ms) (IsLast specs ⇒ nothing)
  says_last ms specs e from to k t = moved (sym (e t.0)) (says_nothing none_lie) from to k t.1

  -- the header of a `for` without semicolons has a condition alone
  only_condition : (at : ℕ) (init : OptionalStatement) (c : OptionalExpression) (post : OptionalStatement) {rule : Rule}
      → Says n (AllStandWithin n (optional_marks at c)) rule
      → Says n (AllStandWithin n (optional_statement_marks first_of_for init
      ++ (optional_marks at c ++ optional_statement_marks ordinary post)))
      (IsMissing init ⇒ IsMissing post ⇒ rule)
  unfolding optional_statement_marks
  only_condition at missing_statement c missing_statement h =
      moved (sym (append-nil (optional_marks at c))) (given (given h))
  only_condition at missing_statement c (present_statement s) h = λ from to k t. absurd t.1.0
  only_condition at (present_statement s) c post h = λ from to k t. absurd t.0

  none_behind : (site : ℕ) (ps : Parameters) → ps ≡ no_parameter → AllStandWithin n (parameters_marks false site ps) × ParametersStandWithin n ps
  unfolding parameters_marks
  none_behind site ps e =
      subst (λ (qs : Parameters). AllStandWithin n (parameters_marks false site qs) × ParametersStandWithin n qs) (sym e) (none_lie, tt)

  pub no_parameters_lie : (site : ℕ) (ps : Parameters) → ps ≡ no_parameter
      → AllStandWithin n (parameters_marks false site ps) × EachIn n (parameters_named ps)
  unfolding parameters_marks
  no_parameters_lie site ps e =
      subst (λ (qs : Parameters). AllStandWithin n (parameters_marks false site qs) × EachIn n (parameters_named qs)) (sym e)
      (none_lie, tt)

  alone : (site : ℕ) (t : Expression) (ps : Parameters) → ps ≡ no_parameter → AllStandWithin n (expression_marks (part_of site) t)
      → AllStandWithin n (expression_marks (part_of site) t ++ parameters_marks false site ps) × ParametersStandWithin n ps
  alone site t ps e h = let rest = none_behind site ps e in (both_lie h rest.0, rest.1)

module _ (text : GoText) (n : ℕ) where
  mutual
    unfolding SpellsExpression SpellsForm SpellsExpressions SpellsMore SpellsOptional SpellsSignature SpellsResult
        SpellsItems SpellsTypeParameters SpellsFields SpellsStatement SpellsStatementForm SpellsOptionalStatement SpellsElse SpellsStatements
        SpellsCases SpellsCommunications SpellsDeclaration SpellsSpecs expression_marks form_marks optional_marks
        names_type_marks signature_marks parameters_marks fields_marks statement_marks statement_form_marks
        statements_marks optional_statement_marks cases_marks communications_marks declaration_marks specs_marks

    pub of_expression : (place : Position) (spot : Spot) (e : Expression) → PlaceStandsWithin n spot.place
        → Says n (AllStandWithin n (expression_marks spot e)) (SpellsExpression text place e)
    of_expression place spot (expression_node form span) low = so (λ w. w.0) (of_form place spot span form low)

    -- the field that an expression selects
    of_left : (place : Position) (e : Expression) → Says n (FieldIn n e) (SpellsExpression text place e)
    of_left place (expression_node form span) = so (λ w. w.1) (of_form place (part_of 0) span form tt)

    of_form : (place : Position) (spot : Spot) (span : Span) (form : ExpressionForm) → PlaceStandsWithin n spot.place
        → Says n (AllStandWithin n (form_marks spot span form) × FieldIn n (expression_node form span))
        (spanning span (SpellsForm text place form))
    of_form place spot span (name_expression name) low =
        no_field_in span (name_expression name) refl (
        spanned_at λ here. so (λ w. one_lies _ (here, role_of_name n spot.place))
        (behind (keeps_word text name) (keeps_end_of_name text.edition place)))
    of_form place spot span (basic_literal kind) low =
        no_field_in span (basic_literal kind) refl (
        spanned (given (no_marks (keeps_token _))))
    of_form place spot span (function_literal signature ss braces) low =
        no_field_in span (function_literal signature ss braces) refl (
        spanned (given (behind (keeps_token _)
        (so (λ w. both_lie (body_lies (literal_body spot.literal span.start signature ss braces) (tt, w.0.1)
        (both_lie w.0.0 w.1)) (both_lie (deferral_lies spot.literal spot.site span.start)
        (fields_lie (literal_given_to spot.site spot.taker span.start)
        (literal_only (FieldStandsWithin n) (no_write_there n) spot.site spot.taker span.start))))
        (says_both (of_signature span.start signature) (spanned (enclosed _ _ (of_statements ss))))))))
    of_form place spot span (composite_literal t es) low =
        no_field_in span (composite_literal t es) refl (
        spanned (given (given (both (of_expression as_type (part_of spot.site) t tt)
        (enclosed _ _ (says_elements es (expressions_marks (part_of spot.site)) (no_expressions (part_of spot.site))
        (says_expressions n text as_element (part_of spot.site) es tt (of_each as_element es))))))))
    of_form place spot span (literal_value es) low =
        no_field_in span (literal_value es) refl (
        spanned (given (enclosed _ _ (says_elements es (expressions_marks (part_of spot.site))
        (no_expressions (part_of spot.site))
        (says_expressions n text as_element (part_of spot.site) es tt (of_each as_element es))))))
    of_form place spot span (key_value k v) low =
        no_field_in span (key_value k v) refl (
        spanned (given (both (so (keyed (part_of spot.site) k) (of_expression as_value (part_of spot.site) k tt))
        (behind (keeps_token _) (of_expression as_value (part_of spot.site) v tt)))))
    of_form place spot span (parenthesized e) low =
        spanned (enclosed _ _ (so (λ w. (w.0, bracketed_field n e span w.1))
        (says_too (of_expression (inside place) (part_of spot.site) e tt) (of_left (inside place) e))))
    of_form place spot span (selector_expression e m) low =
        spanned (given (so (λ w. (selected spot e m w.0, selected_field n e m span w.1))
        (says_both (of_expression as_expression (part_of spot.site) e tt)
        (behind (keeps_token _) (ending (says_identifier text m) (keeps_end_of_selector text.edition place))))))
    of_form place spot span (index_expression e i) low =
        no_field_in span (index_expression e i) refl (
        spanned (given (given (both (of_expression as_expression (part_of spot.site) e tt)
        (enclosed _ _ (of_expression as_expression (part_of spot.site) i tt))))))
    of_form place spot span (instance_expression e es) low =
        no_field_in span (instance_expression e es) refl (
        spanned (given (given (given (both (of_expression as_expression (part_of spot.site) e tt)
        (enclosed _ _ (ending (says_expressions n text as_expression (part_of spot.site) es tt (of_each as_expression es))
        (keeps_after_instance es))))))))
    of_form place spot span (slice_expression e first last most) low =
        no_field_in span (slice_expression e first last most) refl (
        spanned (given (given (both (of_expression as_expression (part_of spot.site) e tt)
        (enclosed _ _ (both (of_optional as_expression spot.site first)
        (behind (keeps_token _) (both (of_optional as_expression spot.site last)
        (says_third_bound most (missing_gives_none spot.site most) (of_optional as_expression spot.site most))))))))))
    of_form place spot span (type_assertion e t) low =
        no_field_in span (type_assertion e t) refl (
        spanned (given (given (both (of_expression as_expression (part_of spot.site) e tt)
        (behind (keeps_token _) (enclosed _ _ (of_expression as_type (part_of spot.site) t tt)))))))
    of_form place spot span (call_expression e es ellipsis) low =
        no_field_in span (call_expression e es ellipsis) refl (
        let inner = callee_spot spot in
        spanned (given (given (so (λ w. both_lie (fields_lie (receiver_given spot.place spot.site e)
        (receiver_only (FieldStandsWithin n) (no_write_there n) spot.place spot.site e))
        (both_lie w.1 (both_lie w.0 (fields_lie (field_called spot.site e)
        (called_only (FieldStandsWithin n) (no_write_there n) spot.site e)))))
        (says_both
        (so (callee_by spot.site spot.place inner e es ellipsis low) (of_expression as_expression inner e tt))
        (enclosed _ _ (says_arguments es (arguments_marks (arguments_place spot.place e) (call_of spot.place e es ellipsis) spot.site 0) ellipsis
        (no_arguments (arguments_place spot.place e) (call_of spot.place e es ellipsis) spot.site 0)
        (says_argument_list n text as_expression (arguments_place spot.place e) (call_of spot.place e es ellipsis) spot.site 0 es
        (of_each as_expression es)))))))))
    of_form place spot span (star_expression e) low =
        no_field_in span (star_expression e) refl (
        spanned (given (behind (keeps_token _) (of_expression (inside place) (part_of spot.site) e tt))))
    of_form place spot span (unary_expression op e) low =
        no_field_in span (unary_expression op e) refl (
        spanned (given (given (so (λ w. newly spot.place spot.site (as_new_literal op e) (new_there (part_of spot.site) op e w)
        (in_place (addressed_within op e) spot.site pointed_to (addressed_within_there (part_of spot.site) op e w) tt w))
        (behind (keeps_token _) (of_expression as_expression (part_of spot.site) e tt))))))
    of_form place spot span (binary_expression op l r) low =
        no_field_in span (binary_expression op l r) refl (
        spanned (given (given (both (of_expression (operand place) (part_of spot.site) l tt)
        (behind (keeps_token _) (of_expression (operand place) (part_of spot.site) r tt))))))
    of_form place spot span (array_type size t) low =
        no_field_in span (array_type size t) refl (
        spanned (both (enclosed _ _ (of_expression as_expression (part_of spot.site) size tt))
        (ending (of_expression as_type (part_of spot.site) t tt) (keeps_end_of_type place))))
    of_form place spot span (ellipsis_array_type t) low =
        no_field_in span (ellipsis_array_type t) refl (
        spanned (behind (enclosed _ _ (keeps_token _))
        (ending (of_expression as_type (part_of spot.site) t tt) (keeps_end_of_type place))))
    of_form place spot span (slice_type t) low =
        no_field_in span (slice_type t) refl (
        spanned (behind (enclosed _ _ keeps_nothing)
        (ending (of_expression as_type (part_of spot.site) t tt) (keeps_end_of_type place))))
    of_form place spot span (map_type k t) low =
        no_field_in span (map_type k t) refl (
        spanned (behind (keeps_token _) (both (enclosed _ _ (of_expression as_type (part_of spot.site) k tt))
        (ending (of_expression as_type (part_of spot.site) t tt) (keeps_end_of_type place)))))
    of_form place spot span (channel_type direction t) low =
        no_field_in span (channel_type direction t) refl (
        spanned (behind (keeps_channel place direction)
        (ending (of_expression as_type (part_of spot.site) t tt) (keeps_end_of_type place))))
    of_form place spot span (function_type signature) low =
        no_field_in span (function_type signature) refl (
        spanned (behind (keeps_token _)
        (ending (so (λ w. w.0) (of_signature spot.site signature)) (keeps_end_of_type place))))
    of_form place spot span (struct_type fs) low =
        no_field_in span (struct_type fs) refl (
        spanned (behind (keeps_token _)
        (ending (enclosed _ _ (of_fields of_struct spot.site fs)) (keeps_end_of_type place))))
    of_form place spot span (interface_type fs) low =
        no_field_in span (interface_type fs) refl (
        spanned (behind (keeps_token _)
        (ending (enclosed _ _ (of_fields of_interface spot.site fs)) (keeps_end_of_type place))))

    pub of_each : (place : Position) (es : Expressions) → EachSays n text place es
    of_each place no_expression = tt
    of_each place (expression_and e es) = (λ spot low. of_expression place spot e low, of_left place e, of_each place es)

    pub of_optional : (place : Position) (site : ℕ) (e : OptionalExpression)
        → Says n (AllStandWithin n (optional_marks site e)) (SpellsOptional text place e)
    of_optional place site missing_expression = says_nothing none_lie
    of_optional place site (present_expression e) = of_expression place (part_of site) e tt

    of_names_type : (row : Row) (site : ℕ) (t : OptionalExpression)
        → Says n (AllStandWithin n (names_type_marks row site t)) (SpellsOptional text as_type t)
    of_names_type row site missing_expression = says_nothing none_lie
    of_names_type row site (present_expression t) =
        so (λ w. in_place (as_named t) site (names_type row) (name_there (part_of site) t w) tt w)
        (of_expression as_type (part_of site) t tt)

    pub of_signature : (site : ℕ) (s : Signature)
        → Says n (AllStandWithin n (signature_marks site s) × SignatureStandsWithin n s) (SpellsSignature text s)
    of_signature site (signature_of ps rs brackets) =
        given (so (λ w. (both_lie w.0.0 w.1.0, (w.0.1, w.1.1)))
        (says_both (enclosed _ _ (of_items true true site ps))
        (says_chosen brackets (given (enclosed _ _ (of_items false true site rs))) (of_result site rs))))

    of_result : (site : ℕ) (rs : Parameters)
        → Says n (AllStandWithin n (parameters_marks false site rs) × ParametersStandWithin n rs) (SpellsResult text rs)
    of_result site no_parameter = so (λ w. (none_lie, tt)) (keeps_not_before _)
    of_result site (unnamed_and ellipsis t ps) = λ from to k s.
        so (λ w. alone n site t ps s.1.0 w) (of_expression as_type (part_of site) t tt) from to k s.1.1.1
    of_result site (named_and name ellipsis t ps) = says_never
    of_result site (name_alone_and name ps) = says_never

    pub of_items : (are_parameters first : Bool) (site : ℕ) (ps : Parameters)
        → Says n (AllStandWithin n (parameters_marks are_parameters site ps) × ParametersStandWithin n ps) (SpellsItems text first ps)
    of_items are_parameters first site no_parameter = so (λ w. (none_lie, tt)) (keeps_after_items first)
    of_items are_parameters first site (named_and name ellipsis t ps) =
        behind (keeps_before_item first)
        (so (λ w. (both_lie (typed (are_parameters && not ellipsis) (part_of site) t site w.1.0) w.1.1.0, (w.0, w.1.1.1)))
        (says_both (says_identifier text name) (behind (keeps_only_if ellipsis (keeps_token _))
        (says_both (of_expression as_type (part_of site) t tt) (of_items are_parameters false site ps)))))
    of_items are_parameters first site (unnamed_and ellipsis t ps) =
        behind (keeps_before_item first) (behind (keeps_only_if ellipsis (keeps_token _))
        (so (λ w. (both_lie (typed (are_parameters && not ellipsis) (part_of site) t site w.0) w.1.0, w.1.1))
        (says_both (of_expression as_type (part_of site) t tt) (of_items are_parameters false site ps))))
    of_items are_parameters first site (name_alone_and name ps) =
        behind (keeps_before_item first) (so (λ w. (w.1.0, (w.0, w.1.1)))
        (says_both (says_identifier text name) (of_items are_parameters false site ps)))

    pub of_type_parameters : (first : Bool) (site : ℕ) (ps : Parameters)
        → Says n (AllStandWithin n (parameters_marks false site ps) × EachIn n (parameters_named ps))
        (SpellsTypeParameters text first ps)
    of_type_parameters first site no_parameter = so (λ w. (none_lie, tt)) (keeps_after_items first)
    of_type_parameters first site (named_and name ellipsis t ps) =
        given (given (behind (keeps_before_item first)
        (so (λ w. (both_lie (typed false (part_of site) t site w.1.0) w.1.1.0, (w.0, w.1.1.1)))
        (says_both (says_identifier text name)
        (says_both (of_expression as_constraint (part_of site) t tt) (of_type_parameters false site ps))))))
    of_type_parameters first site (unnamed_and ellipsis t ps) = says_never
    of_type_parameters first site (name_alone_and name ps) =
        behind (keeps_before_item first) (so (λ w. (w.1.0, (w.0, w.1.1)))
        (says_both (says_identifier text name) (of_type_parameters false site ps)))

    of_fields : (owner : Owner) (site : ℕ) (fs : Fields)
        → Says n (AllStandWithin n (fields_marks site fs)) (SpellsFields text owner fs)
    of_fields owner site no_field = says_nothing none_lie
    of_fields owner site (fields_and names t tag span fs) =
        given (both (spanned (behind (says_identifiers text names)
        (ending (of_expression as_type (part_of site) t tt) (keeps_tag tag))))
        (behind keeps_semicolon (of_fields owner site fs)))
    of_fields owner site (embedded_and star name tag span fs) =
        given (so (λ w. lie_and (mention site elsewhere (embedded name)) _ (w.0, tt) w.1)
        (says_both (spanned (behind (keeps_only_if star (keeps_token _)) (ending (says_type_name text name) (keeps_tag tag))))
        (behind keeps_semicolon (of_fields owner site fs))))
    of_fields owner site (element_and star t tag span fs) =
        given (both (spanned (behind (keeps_only_if star (keeps_token _))
        (ending (of_expression (element_place owner) (part_of site) t tt) (keeps_tag tag))))
        (behind keeps_semicolon (of_fields owner site fs)))
    of_fields owner site (method_and name signature span fs) =
        given (both (spanned (behind (says_identifier text name) (so (λ w. w.0) (of_signature site signature))))
        (behind keeps_semicolon (of_fields owner site fs)))

    pub of_statement : (standing : Standing) (s : Statement)
        → Says n (AllStandWithin n (statement_marks standing s)) (SpellsStatement text s)
    of_statement standing (statement_node form span) = λ from to k t.
        let low = statement_in n form from k in
        let here : span.start ≡ statement_start form from = t.1 in
        of_statement_form standing span.start form (omega (arith, low, here)) from to k t.0

    of_statement_form : (standing : Standing) (at : ℕ) (form : StatementForm) → at ≤ n
        → Says n (AllStandWithin n (statement_form_marks standing at form)) (SpellsStatementForm text form)
    of_statement_form standing at empty_statement low = says_nothing none_lie
    of_statement_form standing at (declaration_statement d) low = of_declaration d
    of_statement_form standing at (labeled_statement name s) low =
        behind (says_identifier text name) (behind (keeps_token _) (of_statement standing s))
    of_statement_form standing at (expression_statement e) low =
        of_expression as_expression (whole (place_in standing as_statement) at) e (statement_place n standing)
    of_statement_form standing at (send_statement c v) low =
        both (of_expression as_expression (part_of at) c tt)
        (behind (keeps_token _) (so (λ w. both_lie w (fields_lie (sent standing at v)
        (sent_only (FieldStandsWithin n) (no_write_there n) standing at v)))
        (of_expression as_expression (part_of at) v tt)))
    of_statement_form standing at (increment_statement e) low =
        ending (so (λ w. both_lie (exposed_in (part_of at) e w.0) (written_lie at None e w.1))
        (says_too (of_expression as_expression (part_of at) e tt) (of_left as_expression e))) (keeps_token _)
    of_statement_form standing at (decrement_statement e) low =
        ending (so (λ w. both_lie (exposed_in (part_of at) e w.0) (written_lie at None e w.1))
        (says_too (of_expression as_expression (part_of at) e tt) (of_left as_expression e))) (keeps_token _)
    of_statement_form standing at (assignment ls rs) low =
        so (λ w. both_lie w.1 (both_lie (fields_lie (rights_given at (is_one rs) ls rs)
        (rights_only (FieldStandsWithin n) (no_write_there n) at (is_one rs) ls rs)) w.0))
        (says_both
        (says_lefts n text as_expression (row_of standing at (assigns ls) rs) at 0 ls (of_each as_expression ls))
        (behind (keeps_token _)
        (says_expressions n text as_expression (value_spot (row_of standing at (assigns ls) rs) at) rs
        (value_place (row_of standing at (assigns ls) rs) low) (of_each as_expression rs))))
    of_statement_form standing at (operator_assignment op l r) low =
        so (λ w. both_lie (exposed_in (part_of at) l w.0.0) (both_lie w.1 (written_lie at None l w.0.1)))
        (says_both (says_too (of_expression as_expression (part_of at) l tt) (of_left as_expression l))
        (behind (keeps_assign_operator op) (of_expression as_expression (part_of at) r tt)))
    of_statement_form standing at (define_statement names rs) low =
        turned (so (names_lie (row_of standing at (defines names) rs) at 0 names) (says_identifiers text names))
        (behind (keeps_token _)
        (says_expressions n text as_expression (value_spot (row_of standing at (defines names) rs) at) rs
        (value_place (row_of standing at (defines names) rs) low) (of_each as_expression rs)))
    of_statement_form standing at (go_statement e) low =
        given (behind (keeps_token _) (of_expression as_expression (whole under_go at) e tt))
    of_statement_form standing at (defer_statement e) low =
        given (behind (keeps_token _) (of_expression as_expression (whole deferred at) e tt))
    of_statement_form standing at (return_statement es) low =
        behind (keeps_token _) (so (λ w. both_lie w (one_lies (returns at es) tt))
        (says_perhaps es (items_marks at 0) (no_items at 0)
        (says_items n text as_expression at 0 es (of_each as_expression es))))
    of_statement_form standing at (break_statement name) low =
        no_marks (behind (keeps_token _) (keeps_optional_identifier text name))
    of_statement_form standing at (continue_statement name) low =
        no_marks (behind (keeps_token _) (keeps_optional_identifier text name))
    of_statement_form standing at (goto_statement name) low =
        given (no_marks (keeps (behind (keeps_token _) (says_identifier text name))))
    of_statement_form standing at fallthrough_statement low = given (no_marks (keeps_token _))
    of_statement_form standing at (block_statement ss braces) low = spanned (enclosed _ _ (of_statements ss))
    of_statement_form standing at (if_statement init has_semicolon c ss braces otherwise) low =
        given (given (behind (keeps_token _)
        (both (says_initial init has_semicolon (missing_statement_gives_none ordinary init) (of_optional_statement ordinary init))
        (so (λ w. both_lie w.0 (both_lie (row_guard_lies (part_of at) (first_row init) c braces w.0)
        (both_lie (both_lie (nil_lie (part_of at) braces.start true c w.0)
        (both_lie w.1.0 (nil_lie (part_of at) (braces.end - 1) false c w.0))) w.1.1)))
        (says_both (of_expression as_expression (part_of at) c tt)
        (says_both (spanned (enclosed _ _ (of_statements ss))) (of_else otherwise)))))))
    of_statement_form standing at (for_statement init c post has_semicolons ss braces) low =
        moved (three_and_one (optional_statement_marks first_of_for init) (optional_marks at c)
        (optional_statement_marks ordinary post) (statements_marks ss))
        (given (given (given (behind (keeps_token _)
        (both (says_chosen has_semicolons
        (both (of_optional_statement first_of_for init) (behind keeps_semicolon
        (both (of_optional as_expression at c) (behind keeps_semicolon (of_optional_statement ordinary post)))))
        (only_condition n at init c post (of_optional as_expression at c)))
        (spanned (enclosed _ _ (of_statements ss))))))))
    of_statement_form standing at (range_assignment ls e ss braces) low =
        given (given (behind (keeps_token _)
        (both (says_range_left ls (ranged_marks at) (no_ranged at)
        (says_ranged n text as_expression at ls (of_each as_expression ls)))
        (behind (keeps_token _) (both (of_expression as_expression (part_of at) e tt)
        (spanned (enclosed _ _ (of_statements ss))))))))
    of_statement_form standing at (range_definition names e ss braces) low =
        given (behind (keeps_token _)
        (so (λ w. both_lie w.1.0 (both_lie (elsewhere_lie at names w.0) w.1.1))
        (says_both (says_identifiers text names) (behind (keeps_token _) (behind (keeps_token _)
        (says_both (of_expression as_expression (part_of at) e tt) (spanned (enclosed _ _ (of_statements ss)))))))))
    of_statement_form standing at (switch_statement init has_semicolon tag cs) low =
        given (given (behind (keeps_token _)
        (both (says_initial init has_semicolon (missing_statement_gives_none ordinary init) (of_optional_statement ordinary init))
        (both (of_optional as_expression at tag) (enclosed _ _ (of_cases at None tt cs))))))
    of_statement_form standing at (type_switch_statement init has_semicolon name e cs) low =
        given (given (given (behind (keeps_token _)
        (both (says_initial init has_semicolon (missing_statement_gives_none ordinary init) (of_optional_statement ordinary init))
        (knowing (says_guard_name text name) λ guard. both (of_expression as_expression (part_of at) e tt)
        (behind (keeps_token _) (behind (enclosed _ _ (keeps_token _)) (enclosed _ _ (of_cases at name guard cs)))))))))
    of_statement_form standing at (select_statement cs) low =
        behind (keeps_token _) (enclosed _ _ (of_communications cs))

    of_optional_statement : (standing : Standing) (s : OptionalStatement)
        → Says n (AllStandWithin n (optional_statement_marks standing s)) (SpellsOptionalStatement text s)
    of_optional_statement standing missing_statement = says_nothing none_lie
    of_optional_statement standing (present_statement s) = of_statement standing s

    of_else : (s : OptionalStatement) → Says n (AllStandWithin n (optional_statement_marks ordinary s)) (SpellsElse text s)
    of_else missing_statement = says_nothing none_lie
    of_else (present_statement s) = given (behind (keeps_token _) (of_statement ordinary s))

    pub of_statements : (ss : Statements) → Says n (AllStandWithin n (statements_marks ss)) (SpellsStatements text ss)
    of_statements no_statement = no_marks keeps_semicolons
    of_statements (statement_and s ss) =
        behind keeps_semicolons (both (given (of_statement ordinary s)) (behind keeps_semicolon
        (so (λ w. both_lie (behind_lies (row_in s) ss w) w) (of_statements ss))))

    of_cases : (at : ℕ) (guard : Option Identifier) → NameIn n guard → (cs : CaseClauses)
        → Says n (AllStandWithin n (cases_marks at guard cs)) (SpellsCases text cs)
    of_cases at guard h no_case = says_nothing none_lie
    of_cases at guard h (case_and es ss span cs) =
        so (λ w. both_lie (guard_lies at guard span h) (both_lie (fields_lie (guard_renewed guard span)
        (guard_only (FieldStandsWithin n) (no_write_there n) guard span)) w))
        (moved (append_assoc (expressions_marks (part_of span.start) es) (statements_marks ss) (cases_marks at guard cs))
        (both (spanned
        (both (says_case_head es (expressions_marks (part_of span.start)) (no_expressions (part_of span.start))
        (says_expressions n text as_expression (part_of span.start) es tt (of_each as_expression es)))
        (behind (keeps_token _) (of_statements ss)))) (of_cases at guard h cs)))

    of_communications : (cs : CommunicationClauses)
        → Says n (AllStandWithin n (communications_marks cs)) (SpellsCommunications text cs)
    of_communications no_communication = says_nothing none_lie
    of_communications (communication_and c ss span cs) =
        given (so (λ w. both_lie w.0.0 (both_lie (fields_lie (communication_given span.start c)
        (communication_only (FieldStandsWithin n) (no_write_there n) span.start c)) (both_lie w.0.1 w.1)))
        (says_both (spanned
        (says_both (says_communication c (missing_statement_gives_none communication c) (of_optional_statement communication c))
        (behind (keeps_token _) (of_statements ss)))) (of_communications cs)))

    of_declaration : (d : Declaration) → Says n (AllStandWithin n (declaration_marks d)) (SpellsDeclaration text d)
    of_declaration (declaration_of keyword specs is_grouped span) =
        spanned_at λ here. behind (keeps_token _)
        (says_chosen is_grouped (enclosed _ _ (of_specs keyword true span.start here specs))
        (of_specs keyword false span.start here specs))

    of_specs : (keyword : DeclKeyword) (is_grouped : Bool) (at : ℕ) → at ≤ n → (specs : Specs)
        → Says n (AllStandWithin n (specs_marks keyword at specs)) (SpellsSpecs text keyword is_grouped specs)
    of_specs keyword is_grouped at low no_spec = says_chosen is_grouped (says_nothing none_lie) says_never
    of_specs keyword is_grouped at low (value_and names t es span specs) =
        let row = row_of ordinary at (declares keyword names t) es in
        given (so (λ w. both_lie w.0.1.0 (both_lie w.0.1.1 (both_lie (names_lie row span.start 0 names w.0.0) w.1)))
        (says_both (spanned (says_both (says_identifiers text names)
        (says_both (of_names_type row span.start t)
        (says_perhaps es (expressions_marks (value_spot row span.start)) (no_expressions (value_spot row span.start))
        (behind (keeps_token _) (says_expressions n text as_expression (value_spot row span.start) es
        (value_place row low) (of_each as_expression es)))))))
        (says_chosen is_grouped (behind keeps_semicolon (of_specs keyword true at low specs))
        (says_last n (specs_marks keyword at specs) specs λ h. no_specs_left keyword at specs h))))
    of_specs keyword is_grouped at low (type_and name ps is_alias t span specs) =
        given (so (λ w. lie_and _ _ (w.0.0, tt) (both_lie (elsewhere_lie span.start (parameters_named ps) w.0.1.0.1)
        (both_lie w.0.1.0.0 (both_lie w.0.1.1 w.1))))
        (says_both (spanned (says_both (says_identifier text name)
        (says_both (says_after_name text.edition ps is_alias t (no_parameters_lie n span.start ps)
        (of_type_parameters true span.start ps))
        (behind (keeps_only_if is_alias (keeps_token _)) (of_expression as_type (part_of span.start) t tt)))))
        (says_chosen is_grouped (behind keeps_semicolon (of_specs keyword true at low specs))
        (says_last n (specs_marks keyword at specs) specs λ h. no_specs_left keyword at specs h))))

-- What is spelled by tokens of a text has their words as its names: of expressions, signatures and statements.
use Rattle.std.proofs.Common.{◌≡◌, ℕ, Bool, true, false, List, [], ◌++◌, Option, None, sym, subst, append_assoc, append-nil}
use Rattle.std.specs.Prelude.{◌-◌, ◌&&◌, not}
use Rattle.tree.specs.declared.edition.Edition.{Edition}
use Rattle.tree.specs.declared.span.Span.{Span}
use Rattle.tree.specs.declared.operator.DeclKeyword.{DeclKeyword}
use Rattle.tree.specs.Syntax.{Identifier, Expression, expression_node, ExpressionForm, name_expression, basic_literal, function_literal, composite_literal, literal_value, key_value, parenthesized, selector_expression, index_expression, instance_expression, slice_expression, type_assertion, call_expression, star_expression, unary_expression, binary_expression, array_type, ellipsis_array_type, slice_type, map_type, channel_type, function_type, struct_type, interface_type, Expressions, no_expression, expression_and, OptionalExpression, missing_expression, present_expression, Signature, signature_of, Parameters, no_parameter, named_and, unnamed_and, name_alone_and, Fields, no_field, fields_and, embedded_and, element_and, method_and, Statement, statement_node, StatementForm, empty_statement, declaration_statement, labeled_statement, expression_statement, send_statement, increment_statement, decrement_statement, assignment, operator_assignment, define_statement, go_statement, defer_statement, return_statement, break_statement, continue_statement, goto_statement, fallthrough_statement, block_statement, if_statement, for_statement, range_assignment, range_definition, switch_statement, type_switch_statement, select_statement, Statements, no_statement, statement_and, OptionalStatement, missing_statement, present_statement, CaseClauses, no_case, case_and, CommunicationClauses, no_communication, communication_and, Declaration, declaration_of, Specs, no_spec, value_and, type_and}
use Rattle.meaning.specs.Scopes.{parameters_named, named_in_type, named_in_types}
use Rattle.meaning.specs.Mentions.{as_named, as_new_literal, embedded, is_one, defines, assigns, declares, Standing, ordinary, first_of_for, communication, Row, as_statement, deferred, under_go, place_in, call_of, arguments_place, callee_spot, elsewhere, names_type, first_row, row_in, Mark, returns, Spot, part_of, whole, mention, literal_body, value_spot, row_of, expression_marks, form_marks, expressions_marks, optional_marks, arguments_marks, items_marks, ranged_marks, names_type_marks, signature_marks, parameters_marks, fields_marks, statement_marks, statement_form_marks, statements_marks, optional_statement_marks, cases_marks, communications_marks, declaration_marks, specs_marks}
use Rattle.meaning.specs.Cursor.{read_in, Cursor, Rule, ◌⇒◌, nothing, spanning}
use Rattle.meaning.specs.Grammar.{Position, as_type, as_expression, as_value, as_element, as_constraint, inside, operand, element_place, statement_start, of_struct, of_interface, Owner, IsMissing, IsLast, SpellsExpression, SpellsForm, SpellsExpressions, SpellsMore, SpellsOptional, SpellsSignature, SpellsResult, SpellsItems, SpellsTypeParameters, SpellsFields, SpellsStatement, SpellsStatementForm, SpellsOptionalStatement, SpellsElse, SpellsStatements, SpellsCases, SpellsCommunications, SpellsDeclaration, SpellsSpecs}
use Rattle.silent_files.specs.NamedWords.{Lexed, IsBound, AreWordsIf, TypeHasWords, PlaceIsBound, ParametersHaveWords, SignatureHasWords}
use Rattle.silent_files.proofs.WordRules.{IsInside, Says, AllHaveWords, AreNames, none_left, one_more, one_has, both_have, start_in, says_nothing, keeps_nothing, says_never, keeps_not_before, keeps_token, says_both, behind, ending, knowing, says_chosen, so, given, spanned, spanned_at, keeps_only_if, enclosed, keeps_semicolon, keeps_semicolons, says_name, says_identifier, keeps_optional_identifier, says_identifiers, both, moved, no_marks}
use Rattle.silent_files.proofs.WordParts.{name_there, type_names_have, both_names, new_there, in_place, exposed_has, key_has, addressed_has, nil_has, found_has, behind_has, selected, callee_by, newly, typed, role_of_name, value_place, row_has, statement_place, names_have, elsewhere_have, IsNameIf, guard_has, deferral_has, literal_given_has, receiver_has, called_has, rights_have, sent_has, unread_has, communication_has, guard_renewed_has, body_has, keeps_end_of_selector, keeps_end_of_name, keeps_after_instance, says_after_type_name, keeps_end_of_type, keeps_channel, keeps_assign_operator, keeps_tag, keeps_before_item, keeps_after_items, says_type_name, says_guard_name, says_arguments, says_perhaps, says_elements, says_range_left, says_case_head, says_third_bound, says_initial, says_communication, EachSays, says_expressions, says_argument_list, says_items, says_ranged, says_lefts}
use Rattle.silent_files.proofs.NoMarks.{missing_gives_none, missing_statement_gives_none, no_expressions, no_arguments, no_items, no_ranged, three_and_one, no_specs_left}

-- a statement begins there
statement_in : (source : Lexed) (form : StatementForm) (from : Cursor) → IsInside source from
    → IsBound source (statement_start form from)
statement_in source empty_statement from k = k.end
statement_in source _ from k = start_in source from k

module _ (source : Lexed) where
  pub says_last : (ms : List Mark) (specs : Specs) → (IsLast specs → ms ≡ []) → Says source (AllHaveWords source ms) (IsLast specs ⇒ nothing)
  says_last ms specs e from to k t = moved (sym (e t.0)) (says_nothing none_left) from to k t.1

  -- the header of a `for` without semicolons has a condition alone
  only_condition : (at : ℕ) (init : OptionalStatement) (c : OptionalExpression) (post : OptionalStatement) {rule : Rule}
      → Says source (AllHaveWords source (optional_marks at c)) rule
      → Says source (AllHaveWords source (optional_statement_marks first_of_for init
      ++ (optional_marks at c ++ optional_statement_marks ordinary post)))
      (IsMissing init ⇒ IsMissing post ⇒ rule)
  unfolding optional_statement_marks
  only_condition at missing_statement c missing_statement h =
      moved (sym (append-nil (optional_marks at c))) (given (given h))
  only_condition at missing_statement c (present_statement s) h = λ from to k t. absurd t.1.0
  only_condition at (present_statement s) c post h = λ from to k t. absurd t.0

  none_behind : (site : ℕ) (ps : Parameters) → ps ≡ no_parameter → AllHaveWords source (parameters_marks false site ps) × ParametersHaveWords source ps
  unfolding parameters_marks
  none_behind site ps e =
      subst (λ (qs : Parameters). AllHaveWords source (parameters_marks false site qs) × ParametersHaveWords source qs) (sym e) (none_left, tt)

  -- nothing is told where no type parameter stands
  pub no_parameters_have : (site : ℕ) (ps : Parameters) → ps ≡ no_parameter
      → AllHaveWords source (parameters_marks false site ps) × AreNames source (parameters_named ps)
  unfolding parameters_marks
  no_parameters_have site ps e =
      subst (λ (qs : Parameters). AllHaveWords source (parameters_marks false site qs)
      × AreNames source (parameters_named qs)) (sym e) (none_left, tt)

  alone : (site : ℕ) (t : Expression) (ps : Parameters) → ps ≡ no_parameter → AllHaveWords source (expression_marks (part_of site) t)
      → AllHaveWords source (expression_marks (part_of site) t ++ parameters_marks false site ps)
      × (AreWordsIf source (as_named t) × ParametersHaveWords source ps)
  alone site t ps e h =
      let rest = none_behind site ps e in
      (both_have h rest.0, (name_there (part_of site) t h, rest.1))

module _ (source : Lexed) (edition : Edition) where
  mutual
    unfolding SpellsExpression SpellsForm SpellsExpressions SpellsMore SpellsOptional SpellsSignature SpellsResult
        SpellsItems SpellsTypeParameters SpellsFields SpellsStatement SpellsStatementForm SpellsOptionalStatement SpellsElse SpellsStatements
        SpellsCases SpellsCommunications SpellsDeclaration SpellsSpecs expression_marks form_marks optional_marks
        names_type_marks signature_marks parameters_marks fields_marks statement_marks statement_form_marks
        statements_marks optional_statement_marks cases_marks communications_marks declaration_marks specs_marks

    pub of_expression : (place : Position) (spot : Spot) (e : Expression) → PlaceIsBound source spot.place
        → Says source (AllHaveWords source (expression_marks spot e)) (SpellsExpression (read_in edition source.text) place e)
    of_expression place spot (expression_node form span) low = of_form place spot span form low

    of_form : (place : Position) (spot : Spot) (span : Span) (form : ExpressionForm) → PlaceIsBound source spot.place
        → Says source (AllHaveWords source (form_marks spot span form)) (spanning span (SpellsForm (read_in edition source.text) place form))
    of_form place spot span (name_expression name) low =
        so (λ w. one_has _ (record { name = w; selected = tt }, role_of_name source spot.place))
        (says_name edition name span (keeps_end_of_name edition place))
    of_form place spot span (basic_literal kind) low = spanned (given (no_marks (keeps_token _)))
    of_form place spot span (function_literal signature ss braces) low =
        spanned (given (behind (keeps_token _)
        (so (λ w. both_have (body_has (literal_body spot.literal span.start signature ss braces) (tt, w.0.1)
        (both_have w.0.0 w.1)) (both_have (deferral_has spot.literal spot.site span.start)
        (literal_given_has spot.site spot.taker span.start)))
        (says_both (of_signature span.start signature) (spanned (enclosed _ _ (of_statements ss)))))))
    of_form place spot span (composite_literal t es) low =
        spanned (given (given (both (of_expression as_type (part_of spot.site) t tt)
        (enclosed _ _ (says_elements es (expressions_marks (part_of spot.site)) (no_expressions (part_of spot.site))
        (says_expressions source edition as_element (part_of spot.site) es tt (of_each as_element es)))))))
    of_form place spot span (literal_value es) low =
        spanned (given (enclosed _ _ (says_elements es (expressions_marks (part_of spot.site))
        (no_expressions (part_of spot.site))
        (says_expressions source edition as_element (part_of spot.site) es tt (of_each as_element es)))))
    of_form place spot span (key_value k v) low =
        spanned (given (both (so (key_has spot.site k) (of_expression as_value (part_of spot.site) k tt))
        (behind (keeps_token _) (of_expression as_value (part_of spot.site) v tt))))
    of_form place spot span (parenthesized e) low =
        spanned (enclosed _ _ (of_expression (inside place) (part_of spot.site) e tt))
    of_form place spot span (selector_expression e m) low =
        spanned (given (so (λ w. selected spot e m w.0 w.1)
        (says_both (of_expression as_expression (part_of spot.site) e tt)
        (behind (keeps_token _) (ending (says_identifier edition m) (keeps_end_of_selector edition place))))))
    of_form place spot span (index_expression e i) low =
        spanned (given (given (both (of_expression as_expression (part_of spot.site) e tt)
        (enclosed _ _ (of_expression as_expression (part_of spot.site) i tt)))))
    of_form place spot span (instance_expression e es) low =
        spanned (given (given (given (both (of_expression as_expression (part_of spot.site) e tt)
        (enclosed _ _ (ending
        (says_expressions source edition as_expression (part_of spot.site) es tt (of_each as_expression es))
        (keeps_after_instance es)))))))
    of_form place spot span (slice_expression e first last most) low =
        spanned (given (given (both (of_expression as_expression (part_of spot.site) e tt)
        (enclosed _ _ (both (of_optional as_expression spot.site first)
        (behind (keeps_token _) (both (of_optional as_expression spot.site last)
        (says_third_bound most (missing_gives_none spot.site most) (of_optional as_expression spot.site most)))))))))
    of_form place spot span (type_assertion e t) low =
        spanned (given (given (both (of_expression as_expression (part_of spot.site) e tt)
        (behind (keeps_token _) (enclosed _ _ (of_expression as_type (part_of spot.site) t tt))))))
    of_form place spot span (call_expression e es ellipsis) low =
        let inner = callee_spot spot in
        let c = call_of spot.place e es ellipsis in
        let stand = arguments_place spot.place e in
        spanned (given (given
        (so (λ w. both_have (receiver_has spot.place spot.site e)
        (both_have w.1 (both_have w.0 (called_has spot.site e))))
        (says_both
        (so (callee_by spot.site spot.place inner e es ellipsis low) (of_expression as_expression inner e tt))
        (enclosed _ _ (says_arguments es (arguments_marks stand c spot.site 0) ellipsis
        (no_arguments stand c spot.site 0)
        (says_argument_list source edition as_expression stand c spot.site 0 es
        (of_each as_expression es))))))))
    of_form place spot span (star_expression e) low =
        spanned (given (behind (keeps_token _) (of_expression (inside place) (part_of spot.site) e tt)))
    of_form place spot span (unary_expression op e) low =
        spanned (given (given (so (λ w. newly spot.place spot.site (as_new_literal op e) (new_there (part_of spot.site) op e w)
        (addressed_has spot.site op e w))
        (behind (keeps_token _) (of_expression as_expression (part_of spot.site) e tt)))))
    of_form place spot span (binary_expression op l r) low =
        spanned (given (given (both (of_expression (operand place) (part_of spot.site) l tt)
        (behind (keeps_token _) (of_expression (operand place) (part_of spot.site) r tt)))))
    of_form place spot span (array_type size t) low =
        spanned (both (enclosed _ _ (of_expression as_expression (part_of spot.site) size tt))
        (ending (of_expression as_type (part_of spot.site) t tt) (keeps_end_of_type place)))
    of_form place spot span (ellipsis_array_type t) low =
        spanned (behind (enclosed _ _ (keeps_token _))
        (ending (of_expression as_type (part_of spot.site) t tt) (keeps_end_of_type place)))
    of_form place spot span (slice_type t) low =
        spanned (behind (enclosed _ _ keeps_nothing)
        (ending (of_expression as_type (part_of spot.site) t tt) (keeps_end_of_type place)))
    of_form place spot span (map_type k t) low =
        spanned (behind (keeps_token _) (both (enclosed _ _ (of_expression as_type (part_of spot.site) k tt))
        (ending (of_expression as_type (part_of spot.site) t tt) (keeps_end_of_type place))))
    of_form place spot span (channel_type direction t) low =
        spanned (behind (keeps_channel place direction)
        (ending (of_expression as_type (part_of spot.site) t tt) (keeps_end_of_type place)))
    of_form place spot span (function_type signature) low =
        spanned (behind (keeps_token _)
        (ending (so (λ w. w.0) (of_signature spot.site signature)) (keeps_end_of_type place)))
    of_form place spot span (struct_type fs) low =
        spanned (behind (keeps_token _)
        (ending (enclosed _ _ (of_fields of_struct spot.site fs)) (keeps_end_of_type place)))
    of_form place spot span (interface_type fs) low =
        spanned (behind (keeps_token _)
        (ending (enclosed _ _ (of_fields of_interface spot.site fs)) (keeps_end_of_type place)))

    pub of_each : (place : Position) (es : Expressions) → EachSays source edition place es
    of_each place no_expression = tt
    of_each place (expression_and e es) = (λ spot low. of_expression place spot e low, of_each place es)

    pub of_optional : (place : Position) (site : ℕ) (e : OptionalExpression)
        → Says source (AllHaveWords source (optional_marks site e)) (SpellsOptional (read_in edition source.text) place e)
    of_optional place site missing_expression = says_nothing none_left
    of_optional place site (present_expression e) = of_expression place (part_of site) e tt

    of_names_type : (row : Row) (site : ℕ) (t : OptionalExpression)
        → Says source (AllHaveWords source (names_type_marks row site t) × TypeHasWords source t)
        (SpellsOptional (read_in edition source.text) as_type t)
    of_names_type row site missing_expression = says_nothing (none_left, tt)
    of_names_type row site (present_expression t) =
        so (λ w. let named = name_there (part_of site) t w in (in_place (as_named t) site (names_type row) named tt w, named))
        (of_expression as_type (part_of site) t tt)

    pub of_signature : (site : ℕ) (s : Signature)
        → Says source (AllHaveWords source (signature_marks site s) × SignatureHasWords source s) (SpellsSignature (read_in edition source.text) s)
    of_signature site (signature_of ps rs brackets) =
        given (so (λ w. (both_have w.0.0 w.1.0, (w.0.1.0, w.1.1)))
        (says_both (enclosed _ _ (of_items true true site ps))
        (says_chosen brackets (given (so (λ w. (w.0, w.1.0)) (enclosed _ _ (of_items false true site rs))))
        (of_result site rs))))

    of_result : (site : ℕ) (rs : Parameters)
        → Says source (AllHaveWords source (parameters_marks false site rs) × ParametersHaveWords source rs) (SpellsResult (read_in edition source.text) rs)
    of_result site no_parameter = so (λ w. (none_left, tt)) (keeps_not_before _)
    of_result site (unnamed_and ellipsis t ps) = λ from to k s.
        so (λ w. alone source site t ps s.1.0 w) (of_expression as_type (part_of site) t tt) from to k s.1.1.1
    of_result site (named_and name ellipsis t ps) = says_never
    of_result site (name_alone_and name ps) = says_never

    pub of_items : (are_parameters first : Bool) (site : ℕ) (ps : Parameters)
        → Says source (AllHaveWords source (parameters_marks are_parameters site ps)
        × (ParametersHaveWords source ps × AreNames source (named_in_types ps)))
        (SpellsItems (read_in edition source.text) first ps)
    of_items are_parameters first site no_parameter = so (λ w. (none_left, (tt, tt))) (keeps_after_items first)
    of_items are_parameters first site (named_and name ellipsis t ps) =
        behind (keeps_before_item first)
        (so (λ w. (
          both_have (typed (are_parameters && not ellipsis) (part_of site) t site w.1.0) w.1.1.0,
          (
            (w.0, name_there (part_of site) t w.1.0, w.1.1.1.0),
            both_names source (named_in_type t) (named_in_types ps) (type_names_have (part_of site) t w.1.0) w.1.1.1.1,
          ),
        ))
        (says_both (says_identifier edition name) (behind (keeps_only_if ellipsis (keeps_token _))
        (says_both (of_expression as_type (part_of site) t tt) (of_items are_parameters false site ps)))))
    of_items are_parameters first site (unnamed_and ellipsis t ps) =
        behind (keeps_before_item first) (behind (keeps_only_if ellipsis (keeps_token _))
        (so (λ w. (
          both_have (typed (are_parameters && not ellipsis) (part_of site) t site w.0) w.1.0,
          (
            (name_there (part_of site) t w.0, w.1.1.0),
            both_names source (named_in_type t) (named_in_types ps) (type_names_have (part_of site) t w.0) w.1.1.1,
          ),
        ))
        (says_both (of_expression as_type (part_of site) t tt) (of_items are_parameters false site ps))))
    of_items are_parameters first site (name_alone_and name ps) =
        behind (keeps_before_item first) (so (λ w. (w.1.0, ((w.0, w.1.1.0), w.1.1.1)))
        (says_both (says_identifier edition name) (of_items are_parameters false site ps)))

    -- type parameters: their constraints, and their names
    pub of_type_parameters : (first : Bool) (site : ℕ) (ps : Parameters)
        → Says source (AllHaveWords source (parameters_marks false site ps) × AreNames source (parameters_named ps))
        (SpellsTypeParameters (read_in edition source.text) first ps)
    of_type_parameters first site no_parameter = so (λ w. (none_left, tt)) (keeps_after_items first)
    of_type_parameters first site (named_and name ellipsis t ps) =
        given (given (behind (keeps_before_item first) (so (λ w. (both_have w.1.0 w.1.1.0, (w.0, w.1.1.1)))
        (says_both (says_identifier edition name)
        (says_both (of_expression as_constraint (part_of site) t tt) (of_type_parameters false site ps))))))
    of_type_parameters first site (unnamed_and ellipsis t ps) = says_never
    of_type_parameters first site (name_alone_and name ps) =
        behind (keeps_before_item first) (so (λ w. (w.1.0, (w.0, w.1.1)))
        (says_both (says_identifier edition name) (of_type_parameters false site ps)))

    of_fields : (owner : Owner) (site : ℕ) (fs : Fields)
        → Says source (AllHaveWords source (fields_marks site fs)) (SpellsFields (read_in edition source.text) owner fs)
    of_fields owner site no_field = says_nothing none_left
    of_fields owner site (fields_and names t tag span fs) =
        given (both (spanned (behind (says_identifiers edition names)
        (ending (of_expression as_type (part_of site) t tt) (keeps_tag tag))))
        (behind keeps_semicolon (of_fields owner site fs)))
    of_fields owner site (embedded_and star name tag span fs) =
        given (so (λ w. one_more (mention site elsewhere (embedded name)) _ (w.0, tt) w.1)
        (says_both (spanned (behind (keeps_only_if star (keeps_token _)) (ending (says_type_name edition name) (keeps_tag tag))))
        (behind keeps_semicolon (of_fields owner site fs))))
    of_fields owner site (element_and star t tag span fs) =
        given (both (spanned (behind (keeps_only_if star (keeps_token _))
        (ending (of_expression (element_place owner) (part_of site) t tt) (keeps_tag tag))))
        (behind keeps_semicolon (of_fields owner site fs)))
    of_fields owner site (method_and name signature span fs) =
        given (both (spanned (behind (says_identifier edition name) (so (λ w. w.0) (of_signature site signature))))
        (behind keeps_semicolon (of_fields owner site fs)))

    pub of_statement : (standing : Standing) (s : Statement)
        → Says source (AllHaveWords source (statement_marks standing s)) (SpellsStatement (read_in edition source.text) s)
    of_statement standing (statement_node form span) = λ from to k t.
        let low = statement_in source form from k in
        let here : span.start ≡ statement_start form from = t.1 in
        of_statement_form standing span.start form (subst (IsBound source) (sym here) low) from to k t.0

    of_statement_form : (standing : Standing) (at : ℕ) (form : StatementForm) → IsBound source at
        → Says source (AllHaveWords source (statement_form_marks standing at form)) (SpellsStatementForm (read_in edition source.text) form)
    of_statement_form standing at empty_statement low = says_nothing none_left
    of_statement_form standing at (declaration_statement d) low = of_declaration d
    of_statement_form standing at (labeled_statement name s) low =
        behind (says_identifier edition name) (behind (keeps_token _) (of_statement standing s))
    of_statement_form standing at (expression_statement e) low =
        of_expression as_expression (whole (place_in standing as_statement) at) e (statement_place source standing)
    of_statement_form standing at (send_statement c v) low =
        so (λ w. both_have w.0 (both_have w.1 (sent_has standing at v)))
        (says_both (of_expression as_expression (part_of at) c tt)
        (behind (keeps_token _) (of_expression as_expression (part_of at) v tt)))
    of_statement_form standing at (increment_statement e) low =
        ending (so (λ w. both_have (exposed_has at e w) (unread_has at e))
        (of_expression as_expression (part_of at) e tt)) (keeps_token _)
    of_statement_form standing at (decrement_statement e) low =
        ending (so (λ w. both_have (exposed_has at e w) (unread_has at e))
        (of_expression as_expression (part_of at) e tt)) (keeps_token _)
    of_statement_form standing at (assignment ls rs) low =
        let row = row_of standing at (assigns ls) rs in
        so (λ w. both_have w.1 (both_have (rights_have at (is_one rs) ls rs) (w.0 (row_has row (value_spot row at) w.1 tt))))
        (says_both (says_lefts source edition as_expression row at 0 ls (of_each as_expression ls))
        (behind (keeps_token _)
        (says_expressions source edition as_expression (value_spot row at) rs (value_place source row low) (of_each as_expression rs))))
    of_statement_form standing at (operator_assignment op l r) low =
        so (λ w. both_have (exposed_has at l w.0) (both_have w.1 (unread_has at l)))
        (says_both (of_expression as_expression (part_of at) l tt)
        (behind (keeps_assign_operator op) (of_expression as_expression (part_of at) r tt)))
    of_statement_form standing at (define_statement names rs) low =
        let row = row_of standing at (defines names) rs in
        so (λ w. both_have w.1 (names_have row at 0 names (row_has row (value_spot row at) w.1 tt) w.0))
        (says_both (says_identifiers edition names)
        (behind (keeps_token _)
        (says_expressions source edition as_expression (value_spot row at) rs (value_place source row low) (of_each as_expression rs))))
    of_statement_form standing at (go_statement e) low =
        given (behind (keeps_token _) (of_expression as_expression (whole under_go at) e tt))
    of_statement_form standing at (defer_statement e) low =
        given (behind (keeps_token _) (of_expression as_expression (whole deferred at) e tt))
    of_statement_form standing at (return_statement es) low =
        behind (keeps_token _) (so (λ w. both_have w (one_has (returns at es) tt))
        (says_perhaps es (items_marks at 0) (no_items at 0)
        (says_items source edition as_expression at 0 es (of_each as_expression es))))
    of_statement_form standing at (break_statement name) low =
        no_marks (behind (keeps_token _) (keeps_optional_identifier edition name))
    of_statement_form standing at (continue_statement name) low =
        no_marks (behind (keeps_token _) (keeps_optional_identifier edition name))
    of_statement_form standing at (goto_statement name) low =
        no_marks (given (behind (keeps_token _) (so (λ w. tt) (says_identifier edition name))))
    of_statement_form standing at fallthrough_statement low = no_marks (given (keeps_token _))
    of_statement_form standing at (block_statement ss braces) low = spanned (enclosed _ _ (of_statements ss))
    of_statement_form standing at (if_statement init has_semicolon c ss braces otherwise) low =
        given (given (behind (keeps_token _)
        (both (says_initial init has_semicolon (missing_statement_gives_none ordinary init) (of_optional_statement ordinary init))
        (so (λ w. both_have w.0 (both_have (found_has at (first_row init) c braces w.0)
        (both_have (both_have (nil_has at braces.start true c w.0)
        (both_have w.1.0 (nil_has at (braces.end - 1) false c w.0))) w.1.1)))
        (says_both (of_expression as_expression (part_of at) c tt)
        (says_both (spanned (enclosed _ _ (of_statements ss))) (of_else otherwise)))))))
    of_statement_form standing at (for_statement init c post has_semicolons ss braces) low =
        moved (three_and_one (optional_statement_marks first_of_for init) (optional_marks at c)
        (optional_statement_marks ordinary post) (statements_marks ss))
        (given (given (given (behind (keeps_token _)
        (both (says_chosen has_semicolons
        (both (of_optional_statement first_of_for init) (behind keeps_semicolon
        (both (of_optional as_expression at c) (behind keeps_semicolon (of_optional_statement ordinary post)))))
        (only_condition source at init c post (of_optional as_expression at c)))
        (spanned (enclosed _ _ (of_statements ss))))))))
    of_statement_form standing at (range_assignment ls e ss braces) low =
        given (given (behind (keeps_token _)
        (both (says_range_left ls (ranged_marks at) (no_ranged at)
        (says_ranged source edition as_expression at ls (of_each as_expression ls)))
        (behind (keeps_token _) (both (of_expression as_expression (part_of at) e tt)
        (spanned (enclosed _ _ (of_statements ss))))))))
    of_statement_form standing at (range_definition names e ss braces) low =
        given (behind (keeps_token _)
        (so (λ w. both_have w.1.0 (both_have (elsewhere_have at names w.0) w.1.1))
        (says_both (says_identifiers edition names) (behind (keeps_token _) (behind (keeps_token _)
        (says_both (of_expression as_expression (part_of at) e tt) (spanned (enclosed _ _ (of_statements ss)))))))))
    of_statement_form standing at (switch_statement init has_semicolon tag cs) low =
        given (given (behind (keeps_token _)
        (both (says_initial init has_semicolon (missing_statement_gives_none ordinary init) (of_optional_statement ordinary init))
        (both (of_optional as_expression at tag) (enclosed _ _ (of_cases at None tt cs))))))
    of_statement_form standing at (type_switch_statement init has_semicolon name e cs) low =
        given (given (given (behind (keeps_token _)
        (both (says_initial init has_semicolon (missing_statement_gives_none ordinary init) (of_optional_statement ordinary init))
        (knowing (says_guard_name edition name) λ guard. both (of_expression as_expression (part_of at) e tt)
        (behind (keeps_token _) (behind (enclosed _ _ (keeps_token _)) (enclosed _ _ (of_cases at name guard cs)))))))))
    of_statement_form standing at (select_statement cs) low =
        behind (keeps_token _) (enclosed _ _ (of_communications cs))

    of_optional_statement : (standing : Standing) (s : OptionalStatement)
        → Says source (AllHaveWords source (optional_statement_marks standing s)) (SpellsOptionalStatement (read_in edition source.text) s)
    of_optional_statement standing missing_statement = says_nothing none_left
    of_optional_statement standing (present_statement s) = of_statement standing s

    of_else : (s : OptionalStatement) → Says source (AllHaveWords source (optional_statement_marks ordinary s)) (SpellsElse (read_in edition source.text) s)
    of_else missing_statement = says_nothing none_left
    of_else (present_statement s) = given (behind (keeps_token _) (of_statement ordinary s))

    pub of_statements : (ss : Statements) → Says source (AllHaveWords source (statements_marks ss)) (SpellsStatements (read_in edition source.text) ss)
    of_statements no_statement = no_marks keeps_semicolons
    of_statements (statement_and s ss) =
        behind keeps_semicolons (so (λ w. both_have w.0 (both_have (behind_has (row_in s) ss w.1) w.1))
        (says_both (given (of_statement ordinary s)) (behind keeps_semicolon (of_statements ss))))

    of_cases : (at : ℕ) (guard : Option Identifier) → IsNameIf source guard → (cs : CaseClauses)
        → Says source (AllHaveWords source (cases_marks at guard cs)) (SpellsCases (read_in edition source.text) cs)
    of_cases at guard h no_case = says_nothing none_left
    of_cases at guard h (case_and es ss span cs) =
        so (λ w. both_have (guard_has at guard span h) (both_have (guard_renewed_has guard span) w))
        (moved (append_assoc (expressions_marks (part_of span.start) es) (statements_marks ss) (cases_marks at guard cs))
        (both (spanned
        (both (says_case_head es (expressions_marks (part_of span.start)) (no_expressions (part_of span.start))
        (says_expressions source edition as_expression (part_of span.start) es tt (of_each as_expression es)))
        (behind (keeps_token _) (of_statements ss)))) (of_cases at guard h cs)))

    of_communications : (cs : CommunicationClauses)
        → Says source (AllHaveWords source (communications_marks cs)) (SpellsCommunications (read_in edition source.text) cs)
    of_communications no_communication = says_nothing none_left
    of_communications (communication_and c ss span cs) =
        given (so (λ w. both_have w.0.0 (both_have (communication_has span.start c) (both_have w.0.1 w.1)))
        (says_both (spanned
        (says_both (says_communication c (missing_statement_gives_none communication c) (of_optional_statement communication c))
        (behind (keeps_token _) (of_statements ss)))) (of_communications cs)))

    of_declaration : (d : Declaration) → Says source (AllHaveWords source (declaration_marks d)) (SpellsDeclaration (read_in edition source.text) d)
    of_declaration (declaration_of keyword specs is_grouped span) =
        spanned_at λ here. behind (keeps_token _)
        (says_chosen is_grouped (enclosed _ _ (of_specs keyword true span.start here specs))
        (of_specs keyword false span.start here specs))

    of_specs : (keyword : DeclKeyword) (is_grouped : Bool) (at : ℕ) → IsBound source at → (specs : Specs)
        → Says source (AllHaveWords source (specs_marks keyword at specs)) (SpellsSpecs (read_in edition source.text) keyword is_grouped specs)
    of_specs keyword is_grouped at low no_spec = says_chosen is_grouped (says_nothing none_left) says_never
    of_specs keyword is_grouped at low (value_and names t es span specs) =
        let row = row_of ordinary at (declares keyword names t) es in
        given (so (λ w. both_have w.0.1.0.0 (both_have w.0.1.1
        (both_have (names_have row span.start 0 names (row_has row (value_spot row span.start) w.0.1.1 w.0.1.0.1) w.0.0) w.1)))
        (says_both (spanned (says_both (says_identifiers edition names)
        (says_both (of_names_type row span.start t)
        (says_perhaps es (expressions_marks (value_spot row span.start)) (no_expressions (value_spot row span.start))
        (behind (keeps_token _) (says_expressions source edition as_expression (value_spot row span.start) es
        (value_place source row low) (of_each as_expression es)))))))
        (says_chosen is_grouped (behind keeps_semicolon (of_specs keyword true at low specs))
        (says_last source (specs_marks keyword at specs) specs λ h. no_specs_left keyword at specs h))))
    of_specs keyword is_grouped at low (type_and name ps is_alias t span specs) =
        given (so (λ w. one_more _ _ (record { name = w.0.0; selected = tt }, tt)
        (both_have (elsewhere_have span.start (parameters_named ps) w.0.1.0.1)
        (both_have w.0.1.0.0 (both_have w.0.1.1 w.1))))
        (says_both (spanned (says_both (says_identifier edition name)
        (says_both (says_after_type_name edition ps is_alias t (no_parameters_have source span.start ps)
        (of_type_parameters true span.start ps))
        (behind (keeps_only_if is_alias (keeps_token _)) (of_expression as_type (part_of span.start) t tt)))))
        (says_chosen is_grouped (behind keeps_semicolon (of_specs keyword true at low specs))
        (says_last source (specs_marks keyword at specs) specs λ h. no_specs_left keyword at specs h))))

-- What is spelled gives the marks of its tree, whose bodies begin where its tokens stand.
use Rattle.std.proofs.Common.{◌≡◌, ℕ, Bool, true, false, List, [], ◌∷◌, ◌++◌, Option, None, refl, sym, ap, ◌∙◌, append_assoc, append-nil, Contains, Some}
use Rattle.std.specs.Prelude.{◌&&◌, not, ◌-◌}
use Rattle.tree.specs.declared.span.Span.{Span}
use Rattle.tree.specs.declared.operator.BasicLitKind.{BasicLitKind}
use Rattle.tree.specs.declared.operator.BasicLitKind.TheVariants.{Number, Rune, InterpretedString, RawString}
use Rattle.tree.specs.declared.operator.UnaryOperator.{UnaryOperator}
use Rattle.tree.specs.declared.operator.UnaryOperator.TheVariants.{Plus, Negate, Not, Complement, Address, Receive, Tilde}
use Rattle.tree.specs.declared.operator.DeclKeyword.{DeclKeyword}
use Rattle.tree.specs.declared.operator.DeclKeyword.TheVariants.{Const, Var, «Type» as type_keyword}
use Rattle.tree.specs.Syntax.{Identifier, Expression, expression_node, ExpressionForm, name_expression, basic_literal, function_literal, composite_literal, literal_value, key_value, parenthesized, selector_expression, index_expression, instance_expression, slice_expression, type_assertion, call_expression, star_expression, unary_expression, binary_expression, array_type, ellipsis_array_type, slice_type, map_type, channel_type, function_type, struct_type, interface_type, Expressions, no_expression, expression_and, OptionalExpression, missing_expression, present_expression, Signature, signature_of, Parameters, no_parameter, named_and, unnamed_and, name_alone_and, Fields, no_field, fields_and, embedded_and, element_and, method_and, Statement, statement_node, StatementForm, empty_statement, declaration_statement, labeled_statement, expression_statement, send_statement, increment_statement, decrement_statement, assignment, operator_assignment, define_statement, go_statement, defer_statement, return_statement, break_statement, continue_statement, goto_statement, fallthrough_statement, block_statement, if_statement, for_statement, range_assignment, range_definition, switch_statement, type_switch_statement, select_statement, Statements, no_statement, statement_and, OptionalStatement, missing_statement, present_statement, CaseClauses, no_case, case_and, CommunicationClauses, no_communication, communication_and, Declaration, declaration_of, Specs, no_spec, value_and, type_and}
use Rattle.meaning.specs.Mentions.{bare, as_bare, as_named, as_new_literal, select_from, embedded, defines, assigns, declares, Standing, ordinary, first_of_for, communication, Row, as_statement, deferred, place_in, Call, call_of, elsewhere, names_type, Mark, Spot, part_of, whole, mention, declaring, number_of, name_role, literal_body, value_spot, left_names, declared_elsewhere, guard_in_clause, row_of, expression_marks, form_marks, expressions_marks, optional_marks, arguments_marks, items_marks, names_type_marks, signature_marks, parameters_marks, fields_marks, statement_marks, statement_form_marks, statements_marks, optional_statement_marks, cases_marks, communications_marks, declaration_marks, specs_marks, exposed, addressed_within, ranged_marks, NilTest, nil_marks, nil_where, bare_within, error_where, error_marks, row_in, first_row, guard_marks, behind_row, CallPlace, under_go, pointed_to, in_body, deferral, callee_spot, receiver_given, field_called, field_written, literal_given_to, sent, rights_given, is_one, guard_renewed, communication_given, as_key, arguments_place}
use Rattle.meaning.specs.Scopes.{parameters_named}
use Rattle.meaning.specs.Cursor.{GoText, Rule, ◌⇒◌, nothing, token, semicolons, spanning, word}
use Rattle.meaning.specs.OperatorTokens.{literal_token, unary_token, keyword_token}
use Rattle.meaning.specs.Grammar.{Position, as_type, as_expression, as_value, as_element, as_constraint, inside, operand, element_place, of_struct, of_interface, Owner, IsMissing, IsLast, SpellsExpression, SpellsForm, SpellsExpressions, SpellsMore, SpellsOptional, SpellsSignature, SpellsResult, SpellsItems, SpellsTypeParameters, SpellsFields, SpellsStatement, SpellsStatementForm, SpellsOptionalStatement, SpellsElse, SpellsStatements, SpellsCases, SpellsCommunications, SpellsDeclaration, SpellsSpecs}
use Rattle.meaning_runs.proofs.AskedSites.{CodeSite, asked_specs, asked_declaration, asked_statement, asked_form, asked_optional, asked_statements, asked_cases, asked_communications, asked_at}
use Rattle.meaning_runs.proofs.BodyOffsetsTokens.{is_solid}
use Rattle.meaning_runs.proofs.SitesWithin.{Around, no_site, from_site, behind_site, AreMentions, AreAskedMentions}
use Rattle.meaning_runs.proofs.BodyOffsetsRules.{Gives, both, turned, behind, ending, given, spanned, loosely, gives_nothing, gives_never, gives_not_before, gives_token, gives_chosen, gives_only_if, enclosed, gives_semicolon, gives_semicolons, gives_identifier, gives_optional_identifier, gives_identifiers, moved, asked_so, replaced, plain_before, plain_behind, statement_at, begun, given_begun, spanned_begun, foreign, past, simple, led, lone, noted, braced, returned, bodied, whole_literal, branched, asked_first}
use Rattle.meaning_runs.proofs.FieldMarks.{Any, any, called_only, literal_only, receiver_only, rights_only, sent_only, communication_only, guard_only}
use Rattle.meaning_runs.proofs.BodyOffsetsParts.{named, callee_named, newly, typed, names, names_around, names_elsewhere, guarded, gives_end_of_name, gives_end_of_selector, gives_end_of_type, gives_channel, gives_arguments, gives_perhaps, gives_elements, gives_range_left, clause, gives_third_bound, gives_guard_name, gives_initial, communication_clause, gives_tag, gives_before_item, gives_after_items, gives_assign_operator, gives_type_name, gives_after_instance, gives_after_name, EachGives, gives_expressions, gives_argument_list, gives_items, gives_lefts, gives_ranged, fields_around, fields_behind, fields_asked, writes_around}
use Rattle.meaning.proofs.Membership.{contains_here, contains_there}
use Rattle.std.proofs.lemmas.List.Elements.{Contains-append_left, Contains-append_right}

pub missing_gives_none : (site : ℕ) (e : OptionalExpression) → e ≡ missing_expression → optional_marks site e ≡ []
unfolding optional_marks
missing_gives_none site missing_expression q = refl
missing_gives_none site (present_expression e) q = let bad : present_expression e ≡ missing_expression = q in cc

one_behind : (q r : CodeSite) (qs rs : List CodeSite) → (q ∷ (qs ++ r ∷ [])) ++ rs ≡ (q ∷ qs) ++ (r ∷ rs)
one_behind q r qs rs = ap (λ (l : List CodeSite). q ∷ l) (append_assoc qs (r ∷ []) rs)

nil_behind : (site : ℕ) (ts : List NilTest) → AreMentions (behind_site site) (nil_marks site ts)
nil_behind site [] = tt
nil_behind site (t ∷ ts) = (refl, nil_behind site ts)

nil_from : (site : ℕ) (ts : List NilTest) → AreMentions (from_site site) (nil_marks site ts)
nil_from site [] = tt
nil_from site (t ∷ ts) = (refl, nil_from site ts)

-- behind a row the braces of an `if` are asked for
errors_asked : (site : ℕ) (row : Row) (ts : List NilTest) (asks : List CodeSite) → Contains asks (asked_at site)
    → AreAskedMentions asks (error_marks site row ts)
errors_asked site row [] asks h = tt
errors_asked site row (t ∷ ts) asks h = (h, errors_asked site row ts asks h)

asked_mentions_both : (asks : List CodeSite) (ms ns : List Mark) → AreAskedMentions asks ms → AreAskedMentions asks ns
    → AreAskedMentions asks (ms ++ ns)
asked_mentions_both asks [] ns h k = k
asked_mentions_both asks (m ∷ ms) ns h k = (h.0, asked_mentions_both asks ms ns h.1 k)

guards_asked : (row : Option Row) (c : Expression) (braces : Span) (asks : List CodeSite)
    → Contains asks (asked_at braces.start)
    → Contains asks (asked_at (braces.end - 1))
    → AreAskedMentions asks (guard_marks row c braces)
guards_asked None c braces asks h k = tt
guards_asked (Some row) c braces asks h k =
    asked_mentions_both asks (error_marks braces.start row (error_where true c)) (error_marks (braces.end - 1) row (error_where false c))
    (errors_asked braces.start row (error_where true c) asks h) (errors_asked (braces.end - 1) row (error_where false c) asks k)

branches_asked : (row : Option Row) (c : Expression) (braces : Span) (qs rs : List CodeSite)
    → AreAskedMentions ((asked_at braces.start ∷ qs) ++ (asked_at (braces.end - 1) ∷ rs)) (guard_marks row c braces)
branches_asked row c braces qs rs =
    let block = asked_at braces.start ∷ qs in
    let past = asked_at (braces.end - 1) ∷ rs in
    guards_asked row c braces (block ++ past) (contains_here (asked_at braces.start) (qs ++ past))
    (Contains-append_right block past (asked_at (braces.end - 1)) (contains_here (asked_at (braces.end - 1)) rs))

behind_asked : (row : Option Row) (ss : Statements) → AreAskedMentions (asked_statements ss) (behind_row row ss)
unfolding asked_statements asked_statement asked_form asked_optional
behind_asked row (statement_and (statement_node (if_statement missing_statement semicolon c ss braces other) span) rest) =
    let block = asked_at braces.start ∷ asked_statements ss in
    let past = asked_at (braces.end - 1) ∷ asked_optional other in
    let own = asked_at span.start ∷ (block ++ past) in
    guards_asked row c braces (own ++ asked_statements rest)
    (Contains-append_left own (asked_statements rest) (asked_at braces.start)
    (contains_there (asked_at span.start) (asked_at braces.start) (block ++ past) (contains_here (asked_at braces.start) _)))
    (Contains-append_left own (asked_statements rest) (asked_at (braces.end - 1))
    (contains_there (asked_at span.start) (asked_at (braces.end - 1)) (block ++ past)
    (Contains-append_right block past (asked_at (braces.end - 1)) (contains_here (asked_at (braces.end - 1)) (asked_optional other)))))
behind_asked row ss = tt

missing_asks_none : (s : OptionalStatement) → s ≡ missing_statement → asked_optional s ≡ []
unfolding asked_optional
missing_asks_none missing_statement q = refl
missing_asks_none (present_statement s) q = let bad : present_statement s ≡ missing_statement = q in cc

pub missing_statement_gives_none : (standing : Standing) (s : OptionalStatement) → s ≡ missing_statement → optional_statement_marks standing s ≡ []
unfolding optional_statement_marks
missing_statement_gives_none standing missing_statement q = refl
missing_statement_gives_none standing (present_statement s) q =
    let bad : present_statement s ≡ missing_statement = q in cc

pub no_parameters_marked : (site : ℕ) (ps : Parameters) → ps ≡ no_parameter → parameters_marks false site ps ≡ []
unfolding parameters_marks
no_parameters_marked site ps e = ap (parameters_marks false site) e

pub no_expressions : (spot : Spot) → expressions_marks spot no_expression ≡ []
unfolding expressions_marks
no_expressions spot = refl

pub no_arguments : (place : CallPlace) (c : Option Call) (site k : ℕ) → arguments_marks place c site k no_expression ≡ []
unfolding arguments_marks
no_arguments place c site k = refl

pub no_ranged : (site : ℕ) → ranged_marks site no_expression ≡ []
unfolding ranged_marks
no_ranged site = refl

pub no_items : (site k : ℕ) → items_marks site k no_expression ≡ []
unfolding items_marks
no_items site k = refl

gives_word : {own : Around} (text : GoText) (name : List ℕ) → Gives true own [] [] (word text name)
gives_word text name from to lo f o s = gives_token _ from to lo f o s.0

gives_literal : {own : Around} (kind : BasicLitKind) → Gives true own [] [] (token (literal_token kind))
gives_literal Number = gives_token _
gives_literal Rune = gives_token _
gives_literal InterpretedString = gives_token _
gives_literal RawString = gives_token _

gives_unary : {own : Around} (op : UnaryOperator) → Gives true own [] [] (token (unary_token op))
gives_unary Plus = gives_token _
gives_unary Negate = gives_token _
gives_unary Not = gives_token _
gives_unary Complement = gives_token _
gives_unary Address = gives_token _
gives_unary Receive = gives_token _
gives_unary Tilde = gives_token _

pub gives_keyword : {own : Around} (keyword : DeclKeyword) → Gives true own [] [] (token (keyword_token keyword))
gives_keyword Const = gives_token _
gives_keyword Var = gives_token _
gives_keyword type_keyword = gives_token _

solid_keyword : (keyword : DeclKeyword) → is_solid (keyword_token keyword) ≡ true
solid_keyword Const = refl
solid_keyword Var = refl
solid_keyword type_keyword = refl

-- the header of a `for` without semicolons has a condition alone
only_condition : (at : ℕ) (init : OptionalStatement) (c : OptionalExpression)
    (post : OptionalStatement) {own : Around} {rule : Rule}
    → Gives false own [] (optional_marks at c) rule
    → Gives false own (asked_optional init ++ asked_optional post)
    (optional_statement_marks first_of_for init ++ (optional_marks at c ++ optional_statement_marks ordinary post))
    (IsMissing init ⇒ IsMissing post ⇒ rule)
unfolding optional_statement_marks asked_optional
only_condition at missing_statement c missing_statement h =
    moved (sym (append-nil (optional_marks at c))) (given (given h))
only_condition at missing_statement c (present_statement s) h = λ from to lo f o t. absurd t.1.0
only_condition at (present_statement s) c post h = λ from to lo f o t. absurd t.0

result_alone : (site : ℕ) (ms : List Mark) (ps : Parameters) → ps ≡ no_parameter → ms ≡ ms ++ parameters_marks false site ps
unfolding parameters_marks
result_alone site ms ps e =
    sym (append-nil ms) ∙ ap (λ (qs : Parameters). ms ++ parameters_marks false site qs) (sym e)

-- marks of four parts, of which the first three stand together
pub three_and_one : (a b c d : List Mark) → (a ++ (b ++ c)) ++ d ≡ a ++ (b ++ (c ++ d))
three_and_one a b c d = append_assoc a (b ++ c) d ∙ ap (λ (l : List Mark). a ++ l) (append_assoc b c d)

-- or one after the other
one_by_one : (a b c d : List Mark) → ((a ++ b) ++ c) ++ d ≡ a ++ (b ++ (c ++ d))
one_by_one a b c d = append_assoc (a ++ b) c d ∙ append_assoc a b (c ++ d)

all_semicolons : {own : Around} → Gives false own [] [] semicolons
all_semicolons from to lo f o t = gives_semicolons lo o t

-- a spec that is the last one
pub no_specs_left : (keyword : DeclKeyword) (at : ℕ) (specs : Specs) → IsLast specs → specs_marks keyword at specs ≡ []
unfolding specs_marks
no_specs_left keyword at no_spec h = refl
no_specs_left keyword at (value_and ns t es span specs) h = absurd h
no_specs_left keyword at (type_and n ps is_alias t span specs) h = absurd h

none_asked_left : (specs : Specs) → IsLast specs → asked_specs specs ≡ []
none_asked_left no_spec h = refl
none_asked_left (value_and ns t es span specs) h = absurd h
none_asked_left (type_and n ps is_alias t span specs) h = absurd h

pub last_gives : {own : Around} (asks : List CodeSite) (ms : List Mark) (specs : Specs)
    → (IsLast specs → asks ≡ [])
    → (IsLast specs → ms ≡ [])
    → Gives false own asks ms (IsLast specs ⇒ nothing)
last_gives asks ms specs q e = λ from to lo f o t.
    asked_so (sym (q t.0)) (moved (sym (e t.0)) gives_nothing) from to lo f o t.1

module _ (text : GoText) where
  mutual
    unfolding SpellsExpression SpellsForm SpellsExpressions SpellsMore SpellsOptional SpellsSignature SpellsResult
        SpellsItems SpellsTypeParameters SpellsFields SpellsStatement SpellsStatementForm SpellsOptionalStatement SpellsElse SpellsStatements
        SpellsCases SpellsCommunications SpellsDeclaration SpellsSpecs expression_marks form_marks optional_marks
        names_type_marks signature_marks parameters_marks fields_marks statement_marks statement_form_marks
        statements_marks optional_statement_marks cases_marks communications_marks declaration_marks specs_marks
        asked_statement asked_form asked_optional asked_statements asked_cases asked_communications

    pub of_expression : (place : Position) (spot : Spot) (e : Expression)
        → Gives true (from_site spot.site) [] (expression_marks spot e) (SpellsExpression text place e)
    of_expression place spot (expression_node form span) = of_form place spot span form

    of_form : (place : Position) (spot : Spot) (span : Span) (form : ExpressionForm)
        → Gives true (from_site spot.site) [] (form_marks spot span form) (spanning span (SpellsForm text place form))
    of_form place spot span (name_expression name) =
        spanned (replaced (mention spot.site (name_role spot.place) (bare name span.start)) refl
        (behind (gives_word text name) (gives_end_of_name text.edition place)))
    of_form place spot span (basic_literal kind) = spanned (given (gives_literal kind))
    of_form place spot span (function_literal signature ss braces) = λ from to lo f o s.
        moved (append_assoc (in_body (literal_body spot.literal span.start signature ss braces)
        (signature_marks span.start signature ++ statements_marks ss)) (deferral spot.literal spot.site span.start)
        (literal_given_to spot.site spot.taker span.start))
        (plain_behind (literal_given_to spot.site spot.taker span.start)
        (fields_around (literal_given_to spot.site spot.taker span.start)
        (literal_only Any any spot.site spot.taker span.start))
        (whole_literal (literal_body spot.literal span.start signature ss braces) spot.literal spot.site
        (signature_marks span.start signature ++ statements_marks ss)
        (bodied (literal_body spot.literal span.start signature ss braces) {span = span} refl
        (both (past (of_signature span.start signature)) (foreign (braced (of_statements ss)))))))
        from to lo f o (s.0.1, s.1, s.2)
    of_form place spot span (composite_literal t es) =
        spanned (given (given (both (of_expression as_type (part_of spot.site) t)
        (enclosed _ _ (gives_elements es (expressions_marks (part_of spot.site)) (no_expressions (part_of spot.site))
        (gives_expressions text as_element (part_of spot.site) es (of_each as_element es)))))))
    of_form place spot span (literal_value es) =
        spanned (given (enclosed _ _ (gives_elements es (expressions_marks (part_of spot.site))
        (no_expressions (part_of spot.site))
        (gives_expressions text as_element (part_of spot.site) es (of_each as_element es)))))
    of_form place spot span (key_value k v) =
        spanned (given (both (named (as_bare k) spot.site as_key (of_expression as_value (part_of spot.site) k))
        (behind (gives_token _) (of_expression as_value (part_of spot.site) v))))
    of_form place spot span (parenthesized e) =
        spanned (enclosed _ _ (of_expression (inside place) (part_of spot.site) e))
    of_form place spot span (selector_expression e n) =
        spanned (given (named (select_from (as_bare e) n) spot.site elsewhere
        (ending (of_expression as_expression (part_of spot.site) e) (behind (gives_token _) (behind (gives_identifier text n) (gives_end_of_selector text.edition place))))))
    of_form place spot span (index_expression e i) =
        spanned (given (given (both (of_expression as_expression (part_of spot.site) e)
        (enclosed _ _ (of_expression as_expression (part_of spot.site) i)))))
    of_form place spot span (instance_expression e es) =
        spanned (given (given (given (both (of_expression as_expression (part_of spot.site) e)
        (enclosed _ _ (ending (gives_expressions text as_expression (part_of spot.site) es (of_each as_expression es))
        (gives_after_instance es)))))))
    of_form place spot span (slice_expression e low high most) =
        spanned (given (given (both (of_expression as_expression (part_of spot.site) e)
        (enclosed _ _ (both (of_optional as_expression spot.site low)
        (behind (gives_token _) (both (of_optional as_expression spot.site high)
        (gives_third_bound most (missing_gives_none spot.site most) (of_optional as_expression spot.site most)))))))))
    of_form place spot span (type_assertion e t) =
        spanned (given (given (both (of_expression as_expression (part_of spot.site) e)
        (behind (gives_token _) (enclosed _ _ (of_expression as_type (part_of spot.site) t))))))
    of_form place spot span (call_expression e es ellipsis) =
        spanned (given (given (plain_before (receiver_given spot.place spot.site e)
        (fields_around (receiver_given spot.place spot.site e) (receiver_only Any any spot.place spot.site e))
        (turned (plain_behind (field_called spot.site e)
        (fields_around (field_called spot.site e) (called_only Any any spot.site e))
        (callee_named (call_of spot.place e es ellipsis) spot.site e
        (of_expression as_expression (callee_spot spot) e)))
        (enclosed _ _ (gives_arguments es ellipsis
        (arguments_marks (arguments_place spot.place e) (call_of spot.place e es ellipsis) spot.site 0)
        (no_arguments (arguments_place spot.place e) (call_of spot.place e es ellipsis) spot.site 0)
        (gives_argument_list text as_expression (arguments_place spot.place e) (call_of spot.place e es ellipsis) spot.site 0 es
        (of_each as_expression es))))))))
    of_form place spot span (star_expression e) =
        spanned (given (behind (gives_token _) (of_expression (inside place) (part_of spot.site) e)))
    of_form place spot span (unary_expression op e) =
        spanned (given (given (newly spot.place spot.site (as_new_literal op e)
        (named (addressed_within op e) spot.site pointed_to
        (behind (gives_unary op) (of_expression as_expression (part_of spot.site) e))))))
    of_form place spot span (binary_expression op l r) =
        spanned (given (given (both (of_expression (operand place) (part_of spot.site) l)
        (behind (gives_token _) (of_expression (operand place) (part_of spot.site) r)))))
    of_form place spot span (array_type n t) =
        spanned (both (enclosed _ _ (of_expression as_expression (part_of spot.site) n))
        (ending (of_expression as_type (part_of spot.site) t) (gives_end_of_type place)))
    of_form place spot span (ellipsis_array_type t) =
        spanned (behind (enclosed _ _ (gives_token _))
        (ending (of_expression as_type (part_of spot.site) t) (gives_end_of_type place)))
    of_form place spot span (slice_type t) =
        spanned (behind (enclosed _ _ gives_nothing)
        (ending (of_expression as_type (part_of spot.site) t) (gives_end_of_type place)))
    of_form place spot span (map_type k t) =
        spanned (behind (gives_token _) (both (enclosed _ _ (of_expression as_type (part_of spot.site) k))
        (ending (of_expression as_type (part_of spot.site) t) (gives_end_of_type place))))
    of_form place spot span (channel_type direction t) =
        spanned (behind (gives_channel place direction)
        (ending (of_expression as_type (part_of spot.site) t) (gives_end_of_type place)))
    of_form place spot span (function_type signature) =
        spanned (behind (gives_token _) (ending (of_signature spot.site signature) (gives_end_of_type place)))
    of_form place spot span (struct_type fs) =
        spanned (behind (gives_token _)
        (ending (enclosed _ _ (of_fields of_struct spot.site fs)) (gives_end_of_type place)))
    of_form place spot span (interface_type fs) =
        spanned (behind (gives_token _)
        (ending (enclosed _ _ (of_fields of_interface spot.site fs)) (gives_end_of_type place)))

    pub of_each : (place : Position) (es : Expressions) → EachGives text place es
    of_each place no_expression = tt
    of_each place (expression_and e es) = (λ spot. of_expression place spot e, of_each place es)

    pub of_optional : (place : Position) (site : ℕ) (e : OptionalExpression)
        → Gives false (from_site site) [] (optional_marks site e) (SpellsOptional text place e)
    of_optional place site missing_expression = gives_nothing
    of_optional place site (present_expression e) = loosely (of_expression place (part_of site) e)

    of_names_type : (row : Row) (site : ℕ) (t : OptionalExpression)
        → Gives false (from_site site) [] (names_type_marks row site t) (SpellsOptional text as_type t)
    of_names_type row site missing_expression = gives_nothing
    of_names_type row site (present_expression t) =
        loosely (named (as_named t) site (names_type row) (of_expression as_type (part_of site) t))

    pub of_signature : (site : ℕ) (s : Signature)
        → Gives true (from_site site) [] (signature_marks site s) (SpellsSignature text s)
    of_signature site (signature_of ps rs brackets) =
        given (both (enclosed _ _ (of_items true true site ps))
        (gives_chosen brackets (given (loosely (enclosed _ _ (of_items false true site rs)))) (of_result site rs)))

    of_result : (site : ℕ) (rs : Parameters)
        → Gives false (from_site site) [] (parameters_marks false site rs) (SpellsResult text rs)
    of_result site no_parameter = gives_not_before _
    of_result site (unnamed_and ellipsis t ps) = λ from to lo f o s.
        moved (result_alone site (expression_marks (part_of site) t) ps s.1.0)
        (loosely (of_expression as_type (part_of site) t)) from to lo f o s.1.1.1
    of_result site (named_and n ellipsis t ps) = gives_never
    of_result site (name_alone_and n ps) = gives_never

    pub of_items : (are_parameters first : Bool) (site : ℕ) (ps : Parameters)
        → Gives false (from_site site) [] (parameters_marks are_parameters site ps) (SpellsItems text first ps)
    of_items are_parameters first site no_parameter = gives_after_items first
    of_items are_parameters first site (named_and n ellipsis t ps) =
        behind (gives_before_item first) (behind (gives_identifier text n)
        (behind (gives_only_if ellipsis (gives_token _))
        (both (typed (are_parameters && not ellipsis) t site (of_expression as_type (part_of site) t))
        (of_items are_parameters false site ps))))
    of_items are_parameters first site (unnamed_and ellipsis t ps) =
        behind (gives_before_item first) (behind (gives_only_if ellipsis (gives_token _))
        (both (typed (are_parameters && not ellipsis) t site (of_expression as_type (part_of site) t))
        (of_items are_parameters false site ps)))
    of_items are_parameters first site (name_alone_and n ps) =
        behind (gives_before_item first) (behind (gives_identifier text n) (of_items are_parameters false site ps))

    pub of_type_parameters : (first : Bool) (site : ℕ) (ps : Parameters)
        → Gives false (from_site site) [] (parameters_marks false site ps) (SpellsTypeParameters text first ps)
    of_type_parameters first site no_parameter = gives_after_items first
    of_type_parameters first site (named_and n ellipsis t ps) =
        given (given (behind (gives_before_item first) (behind (gives_identifier text n)
        (both (typed false t site (of_expression as_constraint (part_of site) t)) (of_type_parameters false site ps)))))
    of_type_parameters first site (unnamed_and ellipsis t ps) = gives_never
    of_type_parameters first site (name_alone_and n ps) =
        behind (gives_before_item first) (behind (gives_identifier text n) (of_type_parameters false site ps))

    of_fields : (owner : Owner) (site : ℕ) (fs : Fields)
        → Gives false (from_site site) [] (fields_marks site fs) (SpellsFields text owner fs)
    of_fields owner site no_field = gives_nothing
    of_fields owner site (fields_and ns t tag span fs) =
        given (loosely (both (spanned (behind (gives_identifiers text ns)
        (ending (of_expression as_type (part_of site) t) (gives_tag tag))))
        (behind gives_semicolon (of_fields owner site fs))))
    of_fields owner site (embedded_and star n tag span fs) =
        given (plain_before (mention site elsewhere (embedded n) ∷ []) (refl, tt)
        (behind (spanned (behind (gives_only_if star (gives_token _))
        (behind (gives_type_name text n) (gives_tag tag))))
        (behind gives_semicolon (of_fields owner site fs))))
    of_fields owner site (element_and star t tag span fs) =
        given (loosely (both (spanned (behind (gives_only_if star (gives_token _))
        (ending (of_expression (element_place owner) (part_of site) t) (gives_tag tag))))
        (behind gives_semicolon (of_fields owner site fs))))
    of_fields owner site (method_and n signature span fs) =
        given (loosely (both (spanned (behind (gives_identifier text n) (of_signature site signature)))
        (behind gives_semicolon (of_fields owner site fs))))

    pub of_statement : (standing : Standing) (s : Statement)
        → Gives false no_site (asked_statement s) (statement_marks standing s) (SpellsStatement text s)
    of_statement standing (statement_node form span) = λ from to lo f o t.
        of_statement_form standing span.start form from to lo f o (t.0, t.1)

    of_statement_form : (standing : Standing) (at : ℕ) (form : StatementForm)
        → Gives false no_site (asked_form at form) (statement_form_marks standing at form)
        (statement_at at form (SpellsStatementForm text form))
    of_statement_form standing at empty_statement = λ from to lo f o s. gives_nothing from to lo f o s.0
    of_statement_form standing at (declaration_statement d) = begun (of_declaration d)
    of_statement_form standing at (labeled_statement n s) =
        begun (loosely (behind (gives_identifier text n) (behind (gives_token _) (of_statement standing s))))
    of_statement_form standing at (expression_statement e) =
        loosely (simple (of_expression as_expression (whole (place_in standing as_statement) at) e))
    of_statement_form standing at (send_statement c v) =
        loosely (simple (both (of_expression as_expression (part_of at) c)
        (behind (gives_token _) (plain_behind (sent standing at v)
        (fields_around (sent standing at v) (sent_only Any any standing at v))
        (of_expression as_expression (part_of at) v)))))
    of_statement_form standing at (increment_statement e) =
        loosely (simple (plain_behind (field_written at None e) (writes_around at None e)
        (ending (named (bare_within e) at exposed (of_expression as_expression (part_of at) e)) (gives_token _))))
    of_statement_form standing at (decrement_statement e) =
        loosely (simple (plain_behind (field_written at None e) (writes_around at None e)
        (ending (named (bare_within e) at exposed (of_expression as_expression (part_of at) e)) (gives_token _))))
    of_statement_form standing at (assignment ls rs) =
        loosely (simple (turned
        (plain_before (rights_given at (is_one rs) ls rs)
        (fields_around (rights_given at (is_one rs) ls rs) (rights_only Any any at (is_one rs) ls rs))
        (gives_lefts text as_expression (row_of standing at (assigns ls) rs) at 0 ls (of_each as_expression ls)))
        (behind (gives_token _)
        (gives_expressions text as_expression (value_spot (row_of standing at (assigns ls) rs) at) rs
        (of_each as_expression rs)))))
    of_statement_form standing at (operator_assignment op l r) =
        loosely (simple (both (named (bare_within l) at exposed (of_expression as_expression (part_of at) l))
        (behind (gives_assign_operator op) (plain_behind (field_written at None l) (writes_around at None l)
        (of_expression as_expression (part_of at) r)))))
    of_statement_form standing at (define_statement ns rs) =
        loosely (simple (plain_behind (left_names (row_of standing at (defines ns) rs) at 0 ns)
        (names (row_of standing at (defines ns) rs) at 0 ns)
        (behind (gives_identifiers text ns) (behind (gives_token _)
        (gives_expressions text as_expression (value_spot (row_of standing at (defines ns) rs) at) rs
        (of_each as_expression rs))))))
    of_statement_form standing at (go_statement e) =
        loosely (given_begun (led _ refl (past (of_expression as_expression (whole under_go at) e))))
    of_statement_form standing at (defer_statement e) =
        loosely (given_begun (led _ refl (past (of_expression as_expression (whole deferred at) e))))
    of_statement_form standing at (return_statement es) =
        loosely (returned es (gives_perhaps es (items_marks at 0) (no_items at 0)
        (gives_items text as_expression at 0 es (of_each as_expression es))))
    of_statement_form standing at (break_statement n) = loosely (led _ refl (gives_optional_identifier text n))
    of_statement_form standing at (continue_statement n) = loosely (led _ refl (gives_optional_identifier text n))
    of_statement_form standing at (goto_statement n) = loosely (given_begun (led _ refl (gives_identifier text n)))
    of_statement_form standing at fallthrough_statement = loosely (given_begun (lone _ refl))
    of_statement_form standing at (block_statement ss braces) =
        begun (loosely (spanned (enclosed _ _ (of_statements ss))))
    of_statement_form standing at (if_statement init has_semicolon c ss braces otherwise) =
        loosely (given_begun (given_begun (led _ refl
        (both (gives_initial init has_semicolon (missing_statement_gives_none ordinary init) (missing_asks_none init)
        (foreign (of_optional_statement ordinary init)))
        (both (past (of_expression as_expression (part_of at) c))
        (asked_first (guard_marks (first_row init) c braces)
        (branches_asked (first_row init) c braces (asked_statements ss) (asked_optional otherwise))
        (asked_so (one_behind (asked_at braces.start) (asked_at (braces.end - 1)) (asked_statements ss) (asked_optional otherwise))
        (both (foreign (branched (nil_marks braces.start (nil_where true c)) (nil_marks (braces.end - 1) (nil_where false c))
        (nil_behind braces.start (nil_where true c)) (nil_from (braces.end - 1) (nil_where false c)) (of_statements ss)))
        (foreign (of_else otherwise))))))))))
    of_statement_form standing at (for_statement init c post has_semicolons ss braces) =
        moved (three_and_one (optional_statement_marks first_of_for init) (optional_marks at c)
        (optional_statement_marks ordinary post) (statements_marks ss))
        (loosely (given_begun (given_begun (given_begun (led _ refl
        (both (gives_chosen has_semicolons
        (both (foreign (of_optional_statement first_of_for init)) (behind gives_semicolon
        (both (past (of_optional as_expression at c))
        (behind gives_semicolon (foreign (of_optional_statement ordinary post))))))
        (only_condition at init c post (past (of_optional as_expression at c))))
        (foreign (spanned (enclosed _ _ (of_statements ss))))))))))
    of_statement_form standing at (range_assignment ls e ss braces) =
        loosely (given_begun (given_begun (led _ refl
        (both (past (gives_range_left ls (ranged_marks at) (no_ranged at)
        (gives_ranged text as_expression at ls (of_each as_expression ls))))
        (behind (gives_token _) (both (past (of_expression as_expression (part_of at) e))
        (foreign (spanned (enclosed _ _ (of_statements ss))))))))))
    of_statement_form standing at (range_definition ns e ss braces) =
        loosely (given_begun (led _ refl (behind (gives_identifiers text ns) (behind (gives_token _)
        (behind (gives_token _) (both (past (of_expression as_expression (part_of at) e))
        (plain_before (declared_elsewhere at ns) (names_elsewhere at ns)
        (foreign (spanned (enclosed _ _ (of_statements ss)))))))))))
    of_statement_form standing at (switch_statement init has_semicolon tag cs) =
        loosely (given_begun (given_begun (led _ refl
        (both (gives_initial init has_semicolon (missing_statement_gives_none ordinary init) (missing_asks_none init)
        (foreign (of_optional_statement ordinary init)))
        (both (past (of_optional as_expression at tag)) (enclosed _ _ (of_cases at None cs)))))))
    of_statement_form standing at (type_switch_statement init has_semicolon n e cs) =
        loosely (given_begun (given_begun (given_begun (led _ refl
        (both (gives_initial init has_semicolon (missing_statement_gives_none ordinary init) (missing_asks_none init)
        (foreign (of_optional_statement ordinary init)))
        (behind (gives_guard_name text n) (both (past (of_expression as_expression (part_of at) e))
        (behind (gives_token _) (behind (enclosed _ _ (gives_token _)) (enclosed _ _ (of_cases at n cs)))))))))))
    of_statement_form standing at (select_statement cs) =
        loosely (led _ refl (foreign (enclosed _ _ (of_communications cs))))

    of_optional_statement : (standing : Standing) (s : OptionalStatement)
        → Gives false no_site (asked_optional s) (optional_statement_marks standing s) (SpellsOptionalStatement text s)
    of_optional_statement standing missing_statement = gives_nothing
    of_optional_statement standing (present_statement s) = of_statement standing s

    of_else : (s : OptionalStatement)
        → Gives false no_site (asked_optional s) (optional_statement_marks ordinary s) (SpellsElse text s)
    of_else missing_statement = gives_nothing
    of_else (present_statement s) = given (loosely (behind (gives_token _) (of_statement ordinary s)))

    pub of_statements : (ss : Statements)
        → Gives false no_site (asked_statements ss) (statements_marks ss) (SpellsStatements text ss)
    of_statements no_statement = λ from to lo f o t. gives_semicolons lo o t
    of_statements (statement_and s ss) =
        behind all_semicolons (both (given (of_statement ordinary s)) (behind gives_semicolon
        (asked_first (behind_row (row_in s) ss) (behind_asked (row_in s) ss) (of_statements ss))))

    of_cases : (at : ℕ) (guard : Option Identifier) (cs : CaseClauses)
        → Gives false (behind_site at) (asked_cases cs) (cases_marks at guard cs) (SpellsCases text cs)
    of_cases at guard no_case = gives_nothing
    of_cases at guard (case_and es ss span cs) =
        plain_before (guard_in_clause at guard span) (guarded at guard span)
        (asked_first (guard_renewed guard span)
        (fields_asked (asked_cases (case_and es ss span cs)) (guard_renewed guard span)
        (contains_here (asked_at span.start) (asked_statements ss ++ asked_cases cs)) (guard_only Any any guard span))
        (moved (append_assoc (expressions_marks (part_of span.start) es) (statements_marks ss) (cases_marks at guard cs))
        (loosely (both (foreign (spanned_begun
        (clause span.start es (expressions_marks (part_of span.start)) (no_expressions (part_of span.start))
        (gives_expressions text as_expression (part_of span.start) es (of_each as_expression es))
        (behind (gives_token _) (foreign (of_statements ss)))))) (of_cases at guard cs)))))

    of_communications : (cs : CommunicationClauses)
        → Gives false no_site (asked_communications cs) (communications_marks cs) (SpellsCommunications text cs)
    of_communications no_communication = gives_nothing
    of_communications (communication_and c ss span cs) =
        moved (three_and_one (optional_statement_marks communication c) (communication_given span.start c)
        (statements_marks ss) (communications_marks cs))
        (given (loosely (both (spanned_begun
        (communication_clause span.start c (missing_statement_gives_none communication c)
        (of_optional_statement communication c)
        (behind (gives_token _) (plain_before (communication_given span.start c)
        (fields_behind (communication_given span.start c) (communication_only Any any span.start c))
        (foreign (of_statements ss)))))) (of_communications cs))))

    of_declaration : (d : Declaration)
        → Gives false no_site (asked_declaration d) (declaration_marks d) (SpellsDeclaration text d)
    of_declaration (declaration_of keyword specs is_grouped span) =
        spanned_begun (loosely (noted (keyword_token keyword) (solid_keyword keyword)
        (gives_chosen is_grouped (loosely (enclosed _ _ (of_specs keyword true span.start specs)))
        (of_specs keyword false span.start specs))))

    of_specs : (keyword : DeclKeyword) (is_grouped : Bool) (at : ℕ) (specs : Specs)
        → Gives false no_site (asked_specs specs) (specs_marks keyword at specs)
        (SpellsSpecs text keyword is_grouped specs)
    of_specs keyword is_grouped at no_spec = gives_chosen is_grouped gives_nothing gives_never
    of_specs keyword is_grouped at (value_and ns t es span specs) =
        moved (one_by_one (names_type_marks (row_of ordinary at (declares keyword ns t) es) span.start t)
        (expressions_marks (value_spot (row_of ordinary at (declares keyword ns t) es) span.start) es)
        (left_names (row_of ordinary at (declares keyword ns t) es) span.start 0 ns) (specs_marks keyword at specs))
        (given (loosely (both (spanned_begun (simple
        (plain_behind (left_names (row_of ordinary at (declares keyword ns t) es) span.start 0 ns)
        (names (row_of ordinary at (declares keyword ns t) es) span.start 0 ns)
        (behind (gives_identifiers text ns)
        (both (of_names_type (row_of ordinary at (declares keyword ns t) es) span.start t)
        (gives_perhaps es (expressions_marks (value_spot (row_of ordinary at (declares keyword ns t) es) span.start))
        (no_expressions (value_spot (row_of ordinary at (declares keyword ns t) es) span.start))
        (behind (gives_token _) (gives_expressions text as_expression
        (value_spot (row_of ordinary at (declares keyword ns t) es) span.start) es (of_each as_expression es)))))))))
        (gives_chosen is_grouped (behind gives_semicolon (of_specs keyword true at specs))
        (last_gives (asked_specs specs) (specs_marks keyword at specs) specs (none_asked_left specs)
        λ h. no_specs_left keyword at specs h)))))
    of_specs keyword is_grouped at (type_and n ps is_alias t span specs) =
        moved (ap (λ (l : List Mark). declaring span.start exposed n (number_of n) ∷ l)
        (three_and_one (declared_elsewhere span.start (parameters_named ps)) (parameters_marks false span.start ps)
        (expression_marks (part_of span.start) t) (specs_marks keyword at specs)))
        (given (loosely (both (spanned_begun (simple
        (plain_before (declaring span.start exposed n (number_of n) ∷ []) (refl, tt)
        (behind (gives_identifier text n)
        (plain_before (declared_elsewhere span.start (parameters_named ps)) (names_around span.start (parameters_named ps))
        (both (gives_after_name text.edition ps is_alias t (no_parameters_marked span.start ps)
        (of_type_parameters true span.start ps))
        (behind (gives_only_if is_alias (gives_token _)) (of_expression as_type (part_of span.start) t))))))))
        (gives_chosen is_grouped (behind gives_semicolon (of_specs keyword true at specs))
        (last_gives (asked_specs specs) (specs_marks keyword at specs) specs (none_asked_left specs)
        λ h. no_specs_left keyword at specs h)))))

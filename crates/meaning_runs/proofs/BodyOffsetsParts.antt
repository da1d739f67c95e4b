-- What the small rules of the grammar give, and marks of which some are one mention in place of a part's own.
use Rattle.std.proofs.Common.{◌≡◌, ℕ, ◌+◌, Bool, true, false, List, [], ◌∷◌, ◌++◌, Option, Some, None, Contains, refl, sym, ap}
use Rattle.std.specs.Prelude.{◌&&◌, if◌then◌else◌}
use Rattle.lexer.specs.declared.token.TokenKind.TheVariants.{CaseKeyword}
use Rattle.tree.specs.declared.edition.Edition.{Edition}
use Rattle.tree.specs.declared.edition.Edition.TheVariants.{First, Second}
use Rattle.tree.specs.declared.span.Span.{Span}
use Rattle.tree.specs.declared.operator.BinaryOperator.{BinaryOperator}
use Rattle.tree.specs.declared.operator.BinaryOperator.TheVariants.{Add, Subtract, Or, Xor, Multiply, Divide, Remainder, ShiftLeft, ShiftRight, And, AndNot}
use Rattle.tree.specs.declared.operator.ChanDirection.{ChanDirection}
use Rattle.tree.specs.declared.operator.ChanDirection.TheVariants.{Both, Send, Receive}
use Rattle.tree.specs.Syntax.{Identifier, TypeName, Expression, expression_node, ExpressionForm, array_type, unary_expression, Expressions, no_expression, expression_and, OptionalExpression, missing_expression, present_expression, OptionalStatement, missing_statement, present_statement, Parameters, no_parameter, named_and, unnamed_and, name_alone_and}
use Rattle.meaning.specs.Scopes.{is_blank}
use Rattle.meaning.specs.Mentions.{Named, as_bare, as_named, as_bracketed, as_pointer, Row, CallPlace, nowhere, as_statement, only_value, return_item, deferred, Call, is_none_left, Role, called, called_in_brackets, argument, left, new_literal, parameter_pointer, Mark, Spot, part_of, whole, mention, declaring, named_or, callee_or, addressed, argument_or, argument_at, new_literal_or, parameter_type_or, left_names, declared_elsewhere, guard_in_clause, expression_marks, expressions_marks, arguments_marks, items_marks, lefts_marks, exposed, bare_within, ranged_marks, under_go, Assigned, Taker, FieldMark, argument_spot, argument_taker, given_to, field_written}
use Rattle.meaning.specs.Cursor.{GoText, Rule, ◌⨾◌}
use Rattle.meaning.specs.OperatorTokens.{assign_operator}
use Rattle.meaning.specs.Grammar.{Position, as_type, as_expression, as_value, as_element, as_constraint, end_of_selector, end_of_name, end_of_type, channel, arguments, perhaps, elements, third_bound, guard_name, initial, range_left, case_head, communication_head, optional_tag, before_item, after_items, after_instance, type_parameters, parameters_stand, length_stands, no_type_parameters, after_type_name, qualifier, type_name, import_name, SpellsExpression, SpellsExpressions, SpellsMore}
use Rattle.meaning_runs.proofs.AskedSites.{CodeSite, asked_at}
use Rattle.meaning_runs.proofs.SitesWithin.{Around, no_site, from_site, behind_site}
use Rattle.meaning_runs.proofs.SitesWithin.{AreMentions, AreAskedMentions}
use Rattle.meaning_runs.proofs.FieldMarks.{FieldsOnly, no_more, and_one, Any, any, given_only, written_only}
use Rattle.meaning_runs.proofs.BodyOffsetsRules.{Gives, both, behind, ending, given, spanned, loosely, gives_one, gives_nothing, gives_never, gives_not_before, gives_token, gives_optional, gives_only_if, enclosed, gives_string, gives_semicolon, gives_identifier, moved, asked_so, replaced, beginning, unasked, foreign, past, led, plain_before}

pub named : (o : Option Named) (site : ℕ) (role : Role) {takes : Bool} {ms : List Mark} {rule : Rule}
    → Gives takes (from_site site) [] ms rule
    → Gives takes (from_site site) [] (named_or o site role ms) rule
named None site role h = h
named (Some n) site role h = replaced (mention site role n) refl h

pub callee_named : (c : Option Call) (site : ℕ) (e : Expression) {takes : Bool} {ms : List Mark} {rule : Rule}
    → Gives takes (from_site site) [] ms rule
    → Gives takes (from_site site) [] (callee_or c site e ms) rule
callee_named None site e h = named (as_bracketed e) site called_in_brackets h
callee_named (Some c) site e h = replaced (mention site (called c) c.callee) refl h

either : (b : Bool) {takes : Bool} {own : Around} {asks : List CodeSite} {ms ns : List Mark} {rule : Rule}
    → Gives takes own asks ms rule
    → Gives takes own asks ns rule
    → Gives takes own asks (if b then ms else ns) rule
either true h k = h
either false h k = k

argued : (c : Call) (site k : ℕ) (e : Expression) {takes : Bool} {ms : List Mark} {rule : Rule}
    → Gives takes (from_site site) [] ms rule
    → Gives takes (from_site site) [] (argument_or c site k e ms) rule
argued c site k (expression_node (unary_expression op e) span) h = named (addressed op e) site (argument k true c) h
argued c site k e h = named (as_named e) site (argument k false c) h

argued_at : (c : Option Call) (site k : ℕ) (is_last : Bool)
    (e : Expression) {takes : Bool} {ms : List Mark} {rule : Rule}
    → Gives takes (from_site site) [] ms rule
    → Gives takes (from_site site) [] (argument_at c site k is_last e ms) rule
argued_at None site k is_last e h = h
argued_at (Some c) site k is_last e h = either (is_last && c.has_ellipsis) h (argued c site k e h)

pub newly : (place : CallPlace) (site : ℕ) (n : Option Named) {takes : Bool} {ms : List Mark} {rule : Rule}
    → Gives takes (from_site site) [] ms rule
    → Gives takes (from_site site) [] (new_literal_or place site n ms) rule
newly nowhere site n h = h
newly as_statement site n h = h
newly (only_value row) site n h = named n site (new_literal row) h
newly (return_item k) site n h = h
newly deferred site n h = h
newly under_go site n h = h

pub typed : (is_plain : Bool) (t : Expression) (site : ℕ) {takes : Bool} {ms : List Mark} {rule : Rule}
    → Gives takes (from_site site) [] ms rule
    → Gives takes (from_site site) [] (parameter_type_or is_plain t site ms) rule
typed is_plain t site h = either is_plain (named (as_pointer t) site parameter_pointer h) h

-- marks of fields, of the site around
pub fields_around : {P : FieldMark → Type 0} {site : ℕ} (ms : List Mark) → FieldsOnly P site ms
    → AreMentions (from_site site) ms
fields_around ms no_more = tt
fields_around ms (and_one {ms = rest} m p h) = (refl, fields_around rest h)

pub fields_behind : {P : FieldMark → Type 0} {site : ℕ} (ms : List Mark) → FieldsOnly P site ms
    → AreMentions (behind_site site) ms
fields_behind ms no_more = tt
fields_behind ms (and_one {ms = rest} m p h) = (refl, fields_behind rest h)

pub fields_asked : {P : FieldMark → Type 0} {site : ℕ} (asks : List CodeSite) (ms : List Mark)
    → Contains asks (asked_at site)
    → FieldsOnly P site ms
    → AreAskedMentions asks ms
fields_asked asks ms among no_more = tt
fields_asked asks ms among (and_one {ms = rest} m p h) = (among, fields_asked asks rest among h)

pub writes_around : (site : ℕ) (by : Option Assigned) (e : Expression)
    → AreMentions (from_site site) (field_written site by e)
writes_around site by e = fields_around (field_written site by e) (written_only Any any site by e (λ l q. tt))

pub gives_around : (site : ℕ) (taker : Taker) (e : Expression) → AreMentions (from_site site) (given_to site taker e)
gives_around site taker e = fields_around (given_to site taker e) (given_only Any any site taker e)

-- marks of the site around
pub names : (row : Row) (site k : ℕ) (ns : List Identifier) → AreMentions (from_site site) (left_names row site k ns)
names row site k [] = tt
names row site k (n ∷ ns) = (refl, names row site (k + 1) ns)

pub names_around : (site : ℕ) (ns : List Identifier) → AreMentions (from_site site) (declared_elsewhere site ns)
names_around site [] = tt
names_around site (n ∷ ns) = (refl, names_around site ns)

pub names_elsewhere : (site : ℕ) (ns : List Identifier) → AreMentions (behind_site site) (declared_elsewhere site ns)
names_elsewhere site [] = tt
names_elsewhere site (n ∷ ns) = (refl, names_elsewhere site ns)

none_or_one : (b : Bool) (site : ℕ) (n : Identifier) (number : Option ℕ)
    → AreMentions (behind_site site) (if b then [] else declaring site exposed n number ∷ [])
none_or_one true site n number = tt
none_or_one false site n number = (refl, tt)

pub guarded : (site : ℕ) (n : Option Identifier) (clause : Span)
    → AreMentions (behind_site site) (guard_in_clause site n clause)
guarded site None clause = tt
guarded site (Some n) clause = none_or_one (is_blank n.text) site n (Some clause.start)

-- small rules
pub gives_end_of_name : {own : Around} (edition : Edition) (place : Position)
    → Gives false own [] [] (end_of_name edition place)
gives_end_of_name edition as_type = behind (gives_not_before _) (gives_not_before _)
gives_end_of_name edition as_expression = gives_nothing
gives_end_of_name edition as_value = gives_nothing
gives_end_of_name edition as_element = gives_nothing
gives_end_of_name edition as_constraint = gives_nothing

pub gives_end_of_selector : {own : Around} (edition : Edition) (place : Position)
    → Gives false own [] [] (end_of_selector edition place)
gives_end_of_selector edition as_type = gives_not_before _
gives_end_of_selector edition as_expression = gives_nothing
gives_end_of_selector edition as_value = gives_nothing
gives_end_of_selector edition as_element = gives_nothing
gives_end_of_selector edition as_constraint = gives_nothing

pub gives_end_of_type : {own : Around} (place : Position) → Gives false own [] [] (end_of_type place)
gives_end_of_type as_type = gives_nothing
gives_end_of_type as_expression = gives_not_before _
gives_end_of_type as_value = gives_not_before _
gives_end_of_type as_element = gives_not_before _
gives_end_of_type as_constraint = gives_not_before _

pub gives_channel : {own : Around} (place : Position) (direction : ChanDirection)
    → Gives true own [] [] (channel place direction)
gives_channel place Both = behind (gives_token _) (gives_not_before _)
gives_channel place Send = behind (gives_token _) (gives_token _)
gives_channel as_type Receive = behind (gives_token _) (gives_token _)
gives_channel place Receive = gives_never

-- a list that may be empty, and gives nothing then
pub gives_arguments : (es : Expressions) (ellipsis : Bool)
    (f : Expressions → List Mark) {takes : Bool} {own : Around} {list : Rule}
    → f no_expression ≡ []
    → Gives takes own [] (f es) list
    → Gives false own [] (f es) (arguments es ellipsis list)
gives_arguments no_expression true f e h = gives_never
gives_arguments no_expression false f e h = moved (sym e) gives_nothing
gives_arguments (expression_and e es) ellipsis f q h =
    loosely (ending h (behind (gives_only_if ellipsis (gives_token _)) (gives_optional (gives_token _))))

pub gives_perhaps : (es : Expressions) (f : Expressions → List Mark) {takes : Bool} {own : Around} {list : Rule}
    → f no_expression ≡ []
    → Gives takes own [] (f es) list
    → Gives false own [] (f es) (perhaps es list)
gives_perhaps no_expression f e h = moved (sym e) gives_nothing
gives_perhaps (expression_and e es) f q h = loosely h

pub gives_elements : (es : Expressions) (f : Expressions → List Mark) {takes : Bool} {own : Around} {list : Rule}
    → f no_expression ≡ []
    → Gives takes own [] (f es) list
    → Gives false own [] (f es) (elements es list)
gives_elements no_expression f e h = moved (sym e) gives_nothing
gives_elements (expression_and e es) f q h = loosely (ending h (gives_optional (gives_token _)))

pub gives_range_left : (es : Expressions) (f : Expressions → List Mark) {takes : Bool} {own : Around} {list : Rule}
    → f no_expression ≡ []
    → Gives takes own [] (f es) list
    → Gives false own [] (f es) (range_left es list)
gives_range_left no_expression f e h = moved (sym e) gives_nothing
gives_range_left (expression_and e es) f q h = loosely (ending h (gives_token _))

-- a clause of a switch: its expressions, and then what stands behind the colon
pub clause : (at : ℕ) (es : Expressions)
    (f : Expressions → List Mark) {takes more : Bool} {asks : List CodeSite} {ms : List Mark} {list rest : Rule}
    → f no_expression ≡ []
    → Gives takes (from_site at) [] (f es) list
    → Gives more (behind_site at) asks ms rest
    → Gives true no_site (asked_at at ∷ asks) (f es ++ ms) (beginning at (case_head es list ⨾ rest))
clause at no_expression f {ms = ms} e h k = moved (ap (λ (l : List Mark). l ++ ms) (sym e)) (led _ refl k)
clause at (expression_and e es) f q h k = λ from to lo fits o s.
    led CaseKeyword refl (both (past h) k) from to lo fits o ((s.0.1.0, s.0.1.1, (s.0.0, s.0.1.2, s.0.2)), s.1)

pub gives_third_bound : (e : OptionalExpression) {takes : Bool} {own : Around} {ms : List Mark} {bound : Rule}
    → (e ≡ missing_expression → ms ≡ [])
    → Gives takes own [] ms bound
    → Gives false own [] ms (third_bound e bound)
gives_third_bound missing_expression q h = moved (sym (q refl)) gives_nothing
gives_third_bound (present_expression e) q h = loosely (behind (gives_token _) h)

pub gives_guard_name : {own : Around} (text : GoText) (n : Option Identifier)
    → Gives false own [] [] (guard_name text n)
gives_guard_name text None = gives_nothing
gives_guard_name text (Some n) = loosely (behind (gives_identifier text n) (gives_token _))

pub gives_initial : (s : OptionalStatement)
    (has_semicolon : Bool) {takes : Bool} {own : Around} {asks : List CodeSite} {ms : List Mark} {rule : Rule}
    → (s ≡ missing_statement → ms ≡ [])
    → (s ≡ missing_statement → asks ≡ [])
    → Gives takes own asks ms rule
    → Gives false own asks ms (initial s has_semicolon rule)
gives_initial missing_statement false q r h = asked_so (sym (r refl)) (moved (sym (q refl)) gives_nothing)
gives_initial missing_statement true q r h = asked_so (sym (r refl)) (moved (sym (q refl)) gives_semicolon)
gives_initial (present_statement s) false q r h = gives_never
gives_initial (present_statement s) true q r h = loosely (ending h gives_semicolon)

-- a clause of a select: what it waits for, and then what stands behind the colon
pub communication_clause : (at : ℕ)
    (c : OptionalStatement) {takes more : Bool} {asks others : List CodeSite} {ms ns : List Mark} {statement rest : Rule}
    → (c ≡ missing_statement → ns ≡ [])
    → Gives takes no_site others ns statement
    → Gives more (behind_site at) asks ms rest
    → Gives true no_site (asked_at at ∷ asks) (ns ++ ms) (beginning at (communication_head c statement ⨾ rest))
communication_clause at missing_statement {ms = ms} q h k =
    moved (ap (λ (l : List Mark). l ++ ms) (sym (q refl))) (led _ refl k)
communication_clause at (present_statement c) q h k = λ from to lo fits o s.
    led CaseKeyword refl (both (foreign (unasked h)) k) from to lo fits o
    ((s.0.1.0, s.0.1.1, (s.0.0, s.0.1.2, s.0.2)), s.1)

pub gives_tag : {own : Around} (tag : Option Span) → Gives false own [] [] (optional_tag tag)
gives_tag None = gives_nothing
gives_tag (Some span) = loosely (spanned gives_string)

pub gives_before_item : {own : Around} (first : Bool) → Gives false own [] [] (before_item first)
gives_before_item true = gives_nothing
gives_before_item false = loosely (gives_token _)

pub gives_after_items : {own : Around} (first : Bool) → Gives false own [] [] (after_items first)
gives_after_items true = gives_nothing
gives_after_items false = gives_optional (gives_token _)

pub gives_assign_operator : {own : Around} (op : BinaryOperator) → Gives true own [] [] (assign_operator op)
gives_assign_operator Add = gives_token _
gives_assign_operator Subtract = gives_token _
gives_assign_operator Or = gives_token _
gives_assign_operator Xor = gives_token _
gives_assign_operator Multiply = gives_token _
gives_assign_operator Divide = gives_token _
gives_assign_operator Remainder = gives_token _
gives_assign_operator ShiftLeft = gives_token _
gives_assign_operator ShiftRight = gives_token _
gives_assign_operator And = gives_token _
gives_assign_operator AndNot = gives_token _
gives_assign_operator op = gives_never

gives_qualifier : {own : Around} (text : GoText) (n : Option Identifier) → Gives false own [] [] (qualifier text n)
gives_qualifier text None = gives_nothing
gives_qualifier text (Some n) = loosely (behind (gives_identifier text n) (gives_token _))

pub gives_type_name : {own : Around} (text : GoText) (n : TypeName) → Gives false own [] [] (type_name text n)
gives_type_name text n = spanned (behind (gives_qualifier text n.qualifier) (gives_identifier text n.name))

pub gives_written_name : {own : Around} (text : GoText) (n : Identifier) → Gives true own [] [] (import_name text (Some n))
gives_written_name text n = gives_one (gives_identifier text n) (given (given (spanned (gives_token _))))

pub gives_import_name : {own : Around} (text : GoText) (n : Option Identifier)
    → Gives false own [] [] (import_name text n)
gives_import_name text None = gives_nothing
gives_import_name text (Some n) = loosely (gives_written_name text n)

-- Instances and type parameters

pub gives_after_instance : {own : Around} (es : Expressions) → Gives false own [] [] (after_instance es)
gives_after_instance no_expression = gives_optional (gives_token _)
gives_after_instance (expression_and e no_expression) = loosely (gives_token _)
gives_after_instance (expression_and e (expression_and f es)) = gives_optional (gives_token _)

gives_stand : {own : Around} (stand : Bool) → Gives false own [] [] (parameters_stand stand)
gives_stand stand from to lo f o s = gives_nothing from to lo f o s.0

gives_length : {own : Around} (form : ExpressionForm) → Gives false own [] [] (length_stands form)
gives_length (array_type n t) = given (gives_stand false)
gives_length form = gives_nothing

gives_no_parameters : {own : Around} (edition : Edition) (is_alias : Bool) (t : Expression)
    → Gives false own [] [] (no_type_parameters edition is_alias t)
gives_no_parameters First is_alias t = gives_nothing
gives_no_parameters Second true t = gives_nothing
gives_no_parameters Second false (expression_node form span) = gives_length form

-- where there are none, the list gives no mark
module _ {takes : Bool} {own : Around} {ms : List Mark} {list : Rule} where
  pub gives_type_parameters : (allowed : Type 0) (ps : Parameters)
      → (ps ≡ no_parameter → ms ≡ [])
      → Gives takes own [] ms list
      → Gives false own [] ms (type_parameters allowed ps list)
  gives_type_parameters allowed no_parameter q h = moved (sym (q refl)) gives_nothing
  gives_type_parameters allowed (named_and n ellipsis t ps) q h = given (given (loosely (enclosed _ _ h)))
  gives_type_parameters allowed (unnamed_and ellipsis t ps) q h = given (given (loosely (enclosed _ _ h)))
  gives_type_parameters allowed (name_alone_and n ps) q h = given (given (loosely (enclosed _ _ h)))

  pub gives_after_name : (edition : Edition) (ps : Parameters) (is_alias : Bool) (t : Expression)
      → (ps ≡ no_parameter → ms ≡ [])
      → Gives takes own [] ms list
      → Gives false own [] ms (after_type_name edition ps is_alias t list)
  gives_after_name edition no_parameter is_alias t q h =
      moved (sym (q refl)) (gives_no_parameters edition is_alias t)
  gives_after_name edition (named_and n ellipsis u ps) is_alias t q h =
      behind (gives_one (gives_stand true) (given (gives_stand false))) (gives_type_parameters _ (named_and n ellipsis u ps) q h)
  gives_after_name edition (unnamed_and ellipsis u ps) is_alias t q h =
      behind (gives_one (gives_stand true) (given (gives_stand false))) (gives_type_parameters _ (unnamed_and ellipsis u ps) q h)
  gives_after_name edition (name_alone_and n ps) is_alias t q h =
      behind (gives_one (gives_stand true) (given (gives_stand false))) (gives_type_parameters _ (name_alone_and n ps) q h)

-- lists of expressions of which each gives its marks
module _ (text : GoText) (place : Position) where
  abbrev pub EachGives : Expressions → Type 0
  EachGives no_expression = Unit {0}
  EachGives (expression_and e es) =
      ((spot : Spot) → Gives true (from_site spot.site) [] (expression_marks spot e) (SpellsExpression text place e))
      × EachGives es

  more_expressions : (spot : Spot) (es : Expressions)
      → EachGives es
      → Gives false (from_site spot.site) [] (expressions_marks spot es) (SpellsMore text place es)
  unfolding SpellsMore expressions_marks
  more_expressions spot no_expression h = gives_nothing
  more_expressions spot (expression_and e es) h =
      loosely (behind (gives_token _) (both (h.0 spot) (more_expressions spot es h.1)))

  pub gives_expressions : (spot : Spot) (es : Expressions)
      → EachGives es
      → Gives true (from_site spot.site) [] (expressions_marks spot es) (SpellsExpressions text place es)
  unfolding SpellsExpressions expressions_marks
  gives_expressions spot no_expression h = gives_never
  gives_expressions spot (expression_and e es) h = both (h.0 spot) (more_expressions spot es h.1)

  more_arguments : (at : CallPlace) (c : Option Call) (site k : ℕ) (es : Expressions)
      → EachGives es
      → Gives false (from_site site) [] (arguments_marks at c site k es) (SpellsMore text place es)
  unfolding SpellsMore arguments_marks
  more_arguments at c site k no_expression h = gives_nothing
  more_arguments at c site k (expression_and e es) h =
      loosely (behind (gives_token _)
      (both (argued_at c site k (is_none_left es) e (h.0 (argument_spot at c site)))
      (plain_before (given_to site (argument_taker at c) e) (gives_around site (argument_taker at c) e)
      (more_arguments at c site (k + 1) es h.1))))

  pub gives_argument_list : (at : CallPlace) (c : Option Call) (site k : ℕ) (es : Expressions)
      → EachGives es
      → Gives true (from_site site) [] (arguments_marks at c site k es) (SpellsExpressions text place es)
  unfolding SpellsExpressions arguments_marks
  gives_argument_list at c site k no_expression h = gives_never
  gives_argument_list at c site k (expression_and e es) h =
      both (argued_at c site k (is_none_left es) e (h.0 (argument_spot at c site)))
      (plain_before (given_to site (argument_taker at c) e) (gives_around site (argument_taker at c) e)
      (more_arguments at c site (k + 1) es h.1))

  more_items : (site k : ℕ) (es : Expressions)
      → EachGives es
      → Gives false (from_site site) [] (items_marks site k es) (SpellsMore text place es)
  unfolding SpellsMore items_marks
  more_items site k no_expression h = gives_nothing
  more_items site k (expression_and e es) h =
      loosely (behind (gives_token _) (both (h.0 (whole (return_item k) site)) (more_items site (k + 1) es h.1)))

  pub gives_items : (site k : ℕ) (es : Expressions)
      → EachGives es
      → Gives true (from_site site) [] (items_marks site k es) (SpellsExpressions text place es)
  unfolding SpellsExpressions items_marks
  gives_items site k no_expression h = gives_never
  gives_items site k (expression_and e es) h = both (h.0 (whole (return_item k) site)) (more_items site (k + 1) es h.1)

  more_lefts : (row : Row) (site k : ℕ) (es : Expressions)
      → EachGives es
      → Gives false (from_site site) [] (lefts_marks row site k es) (SpellsMore text place es)
  unfolding SpellsMore lefts_marks
  more_lefts row site k no_expression h = gives_nothing
  more_lefts row site k (expression_and e es) h =
      loosely (behind (gives_token _)
      (both (named (as_bare e) site (left k row) (named (bare_within e) site exposed (h.0 (part_of site))))
      (plain_before (field_written site (Some record { left_side = k; row = row }) e)
      (writes_around site (Some record { left_side = k; row = row }) e) (more_lefts row site (k + 1) es h.1))))

  pub gives_lefts : (row : Row) (site k : ℕ) (es : Expressions)
      → EachGives es
      → Gives true (from_site site) [] (lefts_marks row site k es) (SpellsExpressions text place es)
  unfolding SpellsExpressions lefts_marks
  gives_lefts row site k no_expression h = gives_never
  gives_lefts row site k (expression_and e es) h =
      both (named (as_bare e) site (left k row) (named (bare_within e) site exposed (h.0 (part_of site))))
      (plain_before (field_written site (Some record { left_side = k; row = row }) e)
      (writes_around site (Some record { left_side = k; row = row }) e) (more_lefts row site (k + 1) es h.1))

  more_ranged : (site : ℕ) (es : Expressions)
      → EachGives es
      → Gives false (from_site site) [] (ranged_marks site es) (SpellsMore text place es)
  unfolding SpellsMore ranged_marks
  more_ranged site no_expression h = gives_nothing
  more_ranged site (expression_and e es) h =
      loosely (behind (gives_token _)
      (both (named (bare_within e) site exposed (h.0 (part_of site)))
      (plain_before (field_written site None e) (writes_around site None e) (more_ranged site es h.1))))

  pub gives_ranged : (site : ℕ) (es : Expressions)
      → EachGives es
      → Gives true (from_site site) [] (ranged_marks site es) (SpellsExpressions text place es)
  unfolding SpellsExpressions ranged_marks
  gives_ranged site no_expression h = gives_never
  gives_ranged site (expression_and e es) h =
      both (named (bare_within e) site exposed (h.0 (part_of site)))
      (plain_before (field_written site None e) (writes_around site None e) (more_ranged site es h.1))

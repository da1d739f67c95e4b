-- What the parts of a tree add to the marks: an item of a list and the rest, a clause, a body.
use Rattle.std.proofs.Common.{Bool, not, ◌&&◌, ◌≡◌, ℕ, List, [], ◌∷◌, ◌++◌, map, Option, Some, None, option_map, Result, OnOk, refl, ap, ◌∙◌, false}
use Rattle.std.specs.Borrow.{Bor}
use Rattle.std.specs.Option.{option_copied}
use Rattle.tree.specs.declared.declaration.Spec.{Spec, Value', Type'}
use Rattle.tree.specs.declared.expression.Expr.{Expr}
use Rattle.tree.specs.declared.expression.Field.{Field, Named' as NamedField', Embedded, Element', Method'}
use Rattle.tree.specs.declared.expression.Literal.{Literal, out-Literal}
use Rattle.tree.specs.declared.expression.Param.{Param, Named' as NamedParam', Unnamed', NameAlone}
use Rattle.tree.specs.declared.operator.DeclKeyword.{DeclKeyword}
use Rattle.tree.specs.declared.span.Identifier.{Identifier as KeptIdentifier}
use Rattle.tree.specs.declared.span.Span.{Span}
use Rattle.tree.specs.declared.statement.Block.{Block, out-Block}
use Rattle.tree.specs.declared.statement.CaseClause.{CaseClause, out-CaseClause}
use Rattle.tree.specs.declared.statement.CommClause.{CommClause, out-CommClause}
use Rattle.tree.specs.declared.statement.Stmt.{Stmt}
use Rattle.tree.specs.Syntax.{Identifier, expression_node, signature_of, Parameters, no_parameter, Fields, no_field, Specs, no_spec, CaseClauses, CommunicationClauses}
use Rattle.tree.specs.View.{identifier_syntax, block_braces, expression_form, literal_syntax, row_expressions, held_expression, row_parameters, parameter_and, field_and, spec_and, case_clause_and, communication_clause_and, expressions_syntax, signature_syntax, statements_syntax, optional_statement_syntax}
use Rattle.tree.proofs.Views.{literal_syntax-out, block_syntax-out, case_clause_and-out, communication_clause_and-out}
use Rattle.mentions.specs.declared.mark.BodyPlace.{BodyPlace as KeptBody}
use Rattle.mentions.specs.MarkViews.{body_view}
use Rattle.marks.specs.declared.by_edition.Walk.{Walk}
use Rattle.marks.specs.WalkViews.{AddsBy}
use Rattle.meaning.specs.Scopes.{parameters_named}
use Rattle.meaning.specs.Mentions.{Mark, Spot, part_of, declared_elsewhere, ordinary, communication, declares, row_of, value_spot, left_names, declaring, exposed, number_of, parameter_type_or, guard_in_clause, guard_renewed, communication_given, in_body, literal_body, deferral, literal_given_to, BodyPlace, opens, closes, expression_marks, form_marks, expressions_marks, names_type_marks, signature_marks, parameters_marks, fields_marks, statements_marks, optional_statement_marks, cases_marks, communications_marks, specs_marks}
use Rattle.mentions.proofs.Adding.{one_part, three_parts, four_parts, two_joined, three_joined}
use Rattle.marks.proofs.AddingBy.{adds_same, adds_then, then_adds}

pub parameters_more : (are_parameters : Bool) (site : ℕ) (p : Param) (ps : Parameters)
    → parameters_marks are_parameters site (parameter_and p ps)
    ≡ parameters_marks are_parameters site (parameter_and p no_parameter) ++ parameters_marks are_parameters site ps
unfolding parameters_marks parameter_and
parameters_more are_parameters site (NamedParam' n ellipsis t span) ps =
    let e = expression_node (expression_form t) span in
    one_part (parameter_type_or (are_parameters && not ellipsis) e site (expression_marks (part_of site) e)) (parameters_marks are_parameters site ps)
parameters_more are_parameters site (Unnamed' ellipsis t span) ps =
    let e = expression_node (expression_form t) span in
    one_part (parameter_type_or (are_parameters && not ellipsis) e site (expression_marks (part_of site) e)) (parameters_marks are_parameters site ps)
parameters_more are_parameters site (NameAlone n) ps = refl

pub fields_more : (site : ℕ) (f : Field) (fs : Fields)
    → fields_marks site (field_and f fs) ≡ fields_marks site (field_and f no_field) ++ fields_marks site fs
unfolding fields_marks field_and
fields_more site (NamedField' ns t t_span tag span) fs =
    one_part (expression_marks (part_of site) (expression_node (expression_form t) t_span)) (fields_marks site fs)
fields_more site (Embedded star n tag span) fs = refl
fields_more site (Element' star e e_span tag span) fs =
    one_part (expression_marks (part_of site) (expression_node (expression_form e) e_span)) (fields_marks site fs)
fields_more site (Method' n ps_shape ps rs_shape rs brackets span) fs =
    one_part (signature_marks site (signature_of (row_parameters ps) (row_parameters rs) brackets)) (fields_marks site fs)

pub specs_more : (keyword : DeclKeyword) (at : ℕ) (s : Spec) (ss : Specs)
    → specs_marks keyword at (spec_and s ss) ≡ specs_marks keyword at (spec_and s no_spec) ++ specs_marks keyword at ss
unfolding specs_marks spec_and
specs_more keyword at (Value' ns t shape es span) ss =
    let row = row_of ordinary at (declares keyword (map identifier_syntax ns.items) (held_expression t)) (row_expressions es) in
    three_parts (names_type_marks row span.start (held_expression t))
    (expressions_marks (value_spot row span.start) (row_expressions es))
    (left_names row span.start 0 (map identifier_syntax ns.items)) (specs_marks keyword at ss)
specs_more keyword at (Type' n shape ps alias p t t_span span) ss =
    four_parts (declaring span.start exposed (identifier_syntax n) (number_of (identifier_syntax n)) ∷ [])
    (declared_elsewhere span.start (parameters_named (row_parameters ps))) (parameters_marks false span.start (row_parameters ps))
    (expression_marks (part_of span.start) (expression_node (expression_form t) t_span)) (specs_marks keyword at ss)

four_joined : (a b c d rest : List Mark) → a ++ (b ++ (c ++ (d ++ rest))) ≡ (a ++ (b ++ (c ++ d))) ++ rest
four_joined a b c d rest = ap (λ l. a ++ l) (three_joined b c d rest) ∙ two_joined a (b ++ (c ++ d)) rest

abbrev pub case_marks : ℕ → Option Identifier → CaseClause → List Mark
case_marks at guard c =
    guard_in_clause at guard (out-CaseClause c).span
    ++ (guard_renewed guard (out-CaseClause c).span
    ++ (expressions_marks (part_of (out-CaseClause c).span.start) (expressions_syntax (out-CaseClause c).expressions.items)
    ++ statements_marks (statements_syntax (out-CaseClause c).statements.items)))

pub cases_more : (at : ℕ) (guard : Option Identifier) (c : CaseClause) (cs : CaseClauses)
    → cases_marks at guard (case_clause_and c cs) ≡ case_marks at guard c ++ cases_marks at guard cs
unfolding cases_marks
cases_more at guard c cs =
    ap (cases_marks at guard) (case_clause_and-out c cs)
    ∙ four_joined (guard_in_clause at guard (out-CaseClause c).span)
    (guard_renewed guard (out-CaseClause c).span)
    (expressions_marks (part_of (out-CaseClause c).span.start) (expressions_syntax (out-CaseClause c).expressions.items))
    (statements_marks (statements_syntax (out-CaseClause c).statements.items))
    (cases_marks at guard cs)

-- a clause, whose lists the code reads as slices
pub adds_case : (at : ℕ) (guard : Option Identifier) (clause : CaseClause) (a b c d f : Walk) (es : List Expr) (ss : List Stmt)
    → AddsBy a b (guard_in_clause at guard (out-CaseClause clause).span)
    → AddsBy b c (guard_renewed guard (out-CaseClause clause).span)
    → es ≡ (out-CaseClause clause).expressions.items
    → AddsBy c d (expressions_marks (part_of (out-CaseClause clause).span.start) (expressions_syntax es))
    → ss ≡ (out-CaseClause clause).statements.items
    → AddsBy d f (statements_marks (statements_syntax ss))
    → AddsBy a f (case_marks at guard clause)
adds_case at guard clause a b c d f es ss first second same third equal fourth =
    let o = out-CaseClause clause in
    let spot = part_of o.span.start in
    let listed = expressions_marks spot (expressions_syntax o.expressions.items) in
    let body = statements_marks (statements_syntax o.statements.items) in
    adds_then a b f (guard_in_clause at guard o.span) (guard_renewed guard o.span ++ (listed ++ body)) first
    (adds_then b c f (guard_renewed guard o.span) (listed ++ body) second
    (adds_then c d f listed body
    (adds_same c d (expressions_marks spot (expressions_syntax es)) listed (ap (λ l. expressions_marks spot (expressions_syntax l)) same) third)
    (adds_same d f (statements_marks (statements_syntax ss)) body (ap (λ l. statements_marks (statements_syntax l)) equal) fourth)))

abbrev pub communication_marks : CommClause → List Mark
communication_marks c =
    optional_statement_marks communication (optional_statement_syntax (out-CommClause c).communication)
    ++ (communication_given (out-CommClause c).span.start (optional_statement_syntax (out-CommClause c).communication)
    ++ statements_marks (statements_syntax (out-CommClause c).statements.items))

pub communications_more : (c : CommClause) (cs : CommunicationClauses)
    → communications_marks (communication_clause_and c cs) ≡ communication_marks c ++ communications_marks cs
unfolding communications_marks
communications_more c cs =
    ap communications_marks (communication_clause_and-out c cs)
    ∙ three_joined (optional_statement_marks communication (optional_statement_syntax (out-CommClause c).communication))
    (communication_given (out-CommClause c).span.start (optional_statement_syntax (out-CommClause c).communication))
    (statements_marks (statements_syntax (out-CommClause c).statements.items))
    (communications_marks cs)

pub adds_communication : (clause : CommClause) (a b c d : Walk) (ss : List Stmt)
    → AddsBy a b (optional_statement_marks communication (optional_statement_syntax (out-CommClause clause).communication))
    → AddsBy b c (communication_given (out-CommClause clause).span.start (optional_statement_syntax (out-CommClause clause).communication))
    → ss ≡ (out-CommClause clause).statements.items
    → AddsBy c d (statements_marks (statements_syntax ss))
    → AddsBy a d (communication_marks clause)
adds_communication clause a b c d ss first second same third =
    let o = out-CommClause clause in
    let waited = optional_statement_syntax o.communication in
    let body = statements_marks (statements_syntax o.statements.items) in
    adds_then a b d (optional_statement_marks communication waited) (communication_given o.span.start waited ++ body) first
    (adds_then b c d (communication_given o.span.start waited) body second
    (adds_same c d (statements_marks (statements_syntax ss)) body (ap (λ l. statements_marks (statements_syntax l)) same) third))

-- The parts of a block and of a literal, as the code reads them.

pub block_braces-out : (b : Block) → block_braces b ≡ (out-Block b).span
block_braces-out b = λ i. (block_syntax-out b i).braces

pub literal_marks : (spot : Spot) (span : Span) (l : Literal)
    → form_marks spot span (literal_syntax l)
    ≡ in_body (literal_body spot.literal span.start (signature_syntax (out-Literal l).signature)
    (statements_syntax (out-Block (out-Literal l).body).statements.items) (out-Block (out-Literal l).body).span)
    (signature_marks span.start (signature_syntax (out-Literal l).signature)
    ++ statements_marks (statements_syntax (out-Block (out-Literal l).body).statements.items))
    ++ (deferral spot.literal spot.site span.start ++ literal_given_to spot.site spot.taker span.start)
unfolding form_marks
literal_marks spot span l =
    let s = signature_syntax (out-Literal l).signature in
    ap (form_marks spot span) (literal_syntax-out l)
    ∙ (λ i. let b = block_syntax-out (out-Literal l).body i in
    in_body (literal_body spot.literal span.start s b.statements b.braces) (signature_marks span.start s ++ statements_marks b.statements)
    ++ (deferral spot.literal spot.site span.start ++ literal_given_to spot.site spot.taker span.start))

-- what stands in a body, and what is added behind it
pub body_adds : {T E : Type 0} (result : Result T E) (a b c d e f : Walk) (place : BodyPlace) (xs ys zs : List Mark)
    → AddsBy a b (opens place ∷ [])
    → AddsBy b c xs
    → AddsBy c d ys
    → AddsBy d e (closes ∷ [])
    → OnOk result (AddsBy e f zs)
    → OnOk result (AddsBy a f (in_body place (xs ++ ys) ++ zs))
body_adds result a b c d e f place xs ys zs first second third fourth =
    then_adds result a e f (in_body place (xs ++ ys)) zs
    (adds_then a b e (opens place ∷ []) ((xs ++ ys) ++ closes ∷ []) first
    (adds_then b d e (xs ++ ys) (closes ∷ []) (adds_then b c d xs ys second third) fourth))

-- a body that stands in the arena
pub opens_kept : (a b : Walk) (kept : Bor KeptBody) (place : BodyPlace)
    → body_view kept.now ≡ place
    → AddsBy a b (opens (body_view kept.now) ∷ [])
    → AddsBy a b (opens place ∷ [])
opens_kept a b kept place same = adds_same a b (opens (body_view kept.now) ∷ []) (opens place ∷ []) (ap (λ p. opens p ∷ []) same)

pub guard_same : (lent : Option (Bor KeptIdentifier)) (kept : Option KeptIdentifier)
    → option_copied lent ≡ kept
    → option_map (λ n. identifier_syntax n.now) lent ≡ option_map identifier_syntax kept
guard_same None kept same = ap (option_map identifier_syntax) same
guard_same (Some n) kept same = ap (option_map identifier_syntax) same

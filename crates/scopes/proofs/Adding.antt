-- What is added at the end of the names, step by step.
use Rattle.std.proofs.Common.{false, ◌≡◌, ℕ, List, [], ◌∷◌, ◌++◌, map, Option, Some, None, option_map, Result, OnOk, refl, sym, ap, ◌∙◌}
use Rattle.std.proofs.lemmas.List.{append_assoc, append-nil, map-append}
use Rattle.std.proofs.lemmas.Result.{on_ok_weaker}
use Rattle.std.specs.Borrow.{Bor}
use Rattle.std.specs.Option.{option_copied}
use Rattle.tree.specs.declared.declaration.Spec.{Spec, Value', Type'}
use Rattle.tree.specs.declared.expression.Expr.{Expr}
use Rattle.tree.specs.declared.expression.Field.{Field, Named' as NamedField', Embedded, Element', Method'}
use Rattle.tree.specs.declared.expression.Literal.{Literal, out-Literal}
use Rattle.tree.specs.declared.expression.Param.{Param, Named' as NamedParam', Unnamed', NameAlone}
use Rattle.tree.specs.declared.operator.DeclKeyword.{DeclKeyword}
use Rattle.tree.specs.declared.operator.DeclKeyword.TheVariants.{«Type» as type_keyword}
use Rattle.tree.specs.declared.span.Identifier.{Identifier as KeptIdentifier}
use Rattle.tree.specs.declared.span.Span.{Span}
use Rattle.tree.specs.declared.statement.Block.{Block, out-Block}
use Rattle.tree.specs.declared.statement.CaseClause.{CaseClause, out-CaseClause}
use Rattle.tree.specs.declared.statement.CommClause.{CommClause, out-CommClause}
use Rattle.tree.specs.declared.statement.Stmt.{Stmt}
use Rattle.tree.specs.Syntax.{Identifier, expression_node, signature_of, Parameters, no_parameter, Fields, no_field, Specs, no_spec, CaseClauses, CommunicationClauses}
use Rattle.tree.specs.View.{identifier_syntax, type_name_syntax, block_braces, expression_form, literal_syntax, row_expressions, held_expression, row_parameters, parameter_and, field_and, spec_and, case_clause_and, communication_clause_and, expressions_syntax, parameters_syntax, signature_syntax, statements_syntax, optional_statement_syntax}
use Rattle.tree.proofs.Views.{literal_syntax-out, block_syntax-out, case_clause_and-out, communication_clause_and-out}
use Rattle.scopes.specs.declared.naming.Naming.{Naming as KeptNaming}
use Rattle.scopes.specs.Views.{naming_view, namings_view, Adds}
use Rattle.meaning.specs.Scopes.{Naming, embedded_name, declared, declared_names, type_declared, behind_name, type_parameters_declared, parameters_named, guard_declared, signature_declared, expression_names, expression_form_names, expressions_names, optional_names, signature_names, parameters_names, fields_names, statements_names, optional_statement_names, cases_names, communications_names, specs_names, outer_specs_names}

pub adds_nothing : (before : List KeptNaming) → Adds before before []
adds_nothing before = sym (append-nil (namings_view before))

pub adds_same : (before after : List KeptNaming) (names others : List Naming) → names ≡ others → Adds before after names → Adds before after others
adds_same before after names others same added = added ∙ ap (λ l. namings_view before ++ l) same

-- one after the other
pub adds_then : (before between after : List KeptNaming) (names others : List Naming)
    → Adds before between names
    → Adds between after others
    → Adds before after (names ++ others)
adds_then before between after names others first second =
    second ∙ ap (λ l. l ++ others) first ∙ append_assoc (namings_view before) names others

pub adds_pushed : (before after : List KeptNaming) (naming : KeptNaming) → after ≡ before ++ naming ∷ [] → Adds before after (naming_view naming ∷ [])
adds_pushed before after naming pushed = ap namings_view pushed ∙ map-append naming_view before (naming ∷ [])

-- A loop keeps that what was added with what the rest adds is the whole.

pub adds_next : (now next : List KeptNaming) (all names rest whole : List Naming)
    → namings_view now ++ all ≡ whole
    → all ≡ names ++ rest
    → Adds now next names
    → namings_view next ++ rest ≡ whole
adds_next now next all names rest whole kept parts added =
    ap (λ l. l ++ rest) added ∙ append_assoc (namings_view now) names rest ∙ ap (λ l. namings_view now ++ l) (sym parts) ∙ kept

pub adds_all : (start end : List KeptNaming) (all whole : List Naming)
    → namings_view end ++ all ≡ namings_view start ++ whole
    → all ≡ []
    → Adds start end whole
adds_all start end all whole kept nothing =
    sym (append-nil (namings_view end)) ∙ ap (λ l. namings_view end ++ l) (sym nothing) ∙ kept

-- The last step may fail.

pub then_adds : {T E : Type 0} (result : Result T E) (before between after : List KeptNaming) (names others : List Naming)
    → Adds before between names
    → OnOk result (Adds between after others)
    → OnOk result (Adds before after (names ++ others))
then_adds result before between after names others first = on_ok_weaker result (adds_then before between after names others first)

pub same_adds : {T E : Type 0} (result : Result T E) (before after : List KeptNaming) (names others : List Naming)
    → names ≡ others
    → OnOk result (Adds before after names)
    → OnOk result (Adds before after others)
same_adds result before after names others same = on_ok_weaker result (adds_same before after names others same)

pub three_adds : {T E : Type 0} (result : Result T E) (a b c d : List KeptNaming) (xs ys zs : List Naming)
    → Adds a b xs
    → Adds b c ys
    → OnOk result (Adds c d zs)
    → OnOk result (Adds a d (xs ++ (ys ++ zs)))
three_adds result a b c d xs ys zs first second third =
    then_adds result a b d xs (ys ++ zs) first (then_adds result b c d ys zs second third)

pub four_adds : {T E : Type 0} (result : Result T E) (a b c d e : List KeptNaming) (xs ys zs ws : List Naming)
    → Adds a b xs
    → Adds b c ys
    → Adds c d zs
    → OnOk result (Adds d e ws)
    → OnOk result (Adds a e (xs ++ (ys ++ (zs ++ ws))))
four_adds result a b c d e xs ys zs ws first second third fourth =
    then_adds result a b e xs (ys ++ (zs ++ ws)) first (three_adds result b c d e ys zs ws second third fourth)

pub five_adds : {T E : Type 0} (result : Result T E) (a b c d e f : List KeptNaming) (xs ys zs ws vs : List Naming)
    → Adds a b xs
    → Adds b c ys
    → Adds c d zs
    → Adds d e ws
    → OnOk result (Adds e f vs)
    → OnOk result (Adds a f (xs ++ (ys ++ (zs ++ (ws ++ vs)))))
five_adds result a b c d e f xs ys zs ws vs first second third fourth fifth =
    then_adds result a b f xs (ys ++ (zs ++ (ws ++ vs))) first (four_adds result b c d e f ys zs ws vs second third fourth fifth)

pub alone_adds : {T E : Type 0} (result : Result T E) (before after : List KeptNaming) (names : List Naming)
    → OnOk result (Adds before after names)
    → OnOk result (Adds before after (names ++ []))
alone_adds result before after names = same_adds result before after names (names ++ []) (sym (append-nil names))

pub then_alone_adds : {T E : Type 0} (result : Result T E) (a b c : List KeptNaming) (xs ys : List Naming)
    → Adds a b xs
    → OnOk result (Adds b c ys)
    → OnOk result (Adds a c (xs ++ (ys ++ [])))
then_alone_adds result a b c xs ys first second = then_adds result a b c xs (ys ++ []) first (alone_adds result b c ys second)

-- An item of a list, and the rest.

one_part : (a rest : List Naming) → a ++ rest ≡ (a ++ []) ++ rest
one_part a rest = sym (append_assoc a [] rest)

two_parts : (a b rest : List Naming) → a ++ (b ++ rest) ≡ (a ++ (b ++ [])) ++ rest
two_parts a b rest = sym (append_assoc a (b ++ []) rest ∙ ap (λ l. a ++ l) (append_assoc b [] rest))

three_parts : (a b c rest : List Naming) → a ++ (b ++ (c ++ rest)) ≡ (a ++ (b ++ (c ++ []))) ++ rest
three_parts a b c rest =
    sym (append_assoc a (b ++ (c ++ [])) rest ∙ ap (λ l. a ++ l) (append_assoc b (c ++ []) rest ∙ ap (λ l. b ++ l) (append_assoc c [] rest)))

four_parts : (a b c d rest : List Naming) → a ++ (b ++ (c ++ (d ++ rest))) ≡ (a ++ (b ++ (c ++ (d ++ [])))) ++ rest
four_parts a b c d rest =
    ap (λ l. a ++ l) (three_parts b c d rest) ∙ sym (append_assoc a (b ++ (c ++ (d ++ []))) rest)

two_joined : (a b rest : List Naming) → a ++ (b ++ rest) ≡ (a ++ b) ++ rest
two_joined a b rest = sym (append_assoc a b rest)

three_joined : (a b c rest : List Naming) → a ++ (b ++ (c ++ rest)) ≡ (a ++ (b ++ c)) ++ rest
three_joined a b c rest = sym (append_assoc a (b ++ c) rest ∙ ap (λ l. a ++ l) (append_assoc b c rest))

pub parameters_more : (p : Param) (ps : Parameters)
    → parameters_names (parameter_and p ps) ≡ parameters_names (parameter_and p no_parameter) ++ parameters_names ps
unfolding parameters_names parameter_and
parameters_more (NamedParam' n ellipsis t span) ps =
    one_part (expression_names (expression_node (expression_form t) span)) (parameters_names ps)
parameters_more (Unnamed' ellipsis t span) ps =
    one_part (expression_names (expression_node (expression_form t) span)) (parameters_names ps)
parameters_more (NameAlone n) ps = refl

pub fields_more : (f : Field) (fs : Fields) → fields_names (field_and f fs) ≡ fields_names (field_and f no_field) ++ fields_names fs
unfolding fields_names field_and
fields_more (NamedField' ns t t_span tag span) fs =
    one_part (expression_names (expression_node (expression_form t) t_span)) (fields_names fs)
fields_more (Embedded star n tag span) fs = one_part (embedded_name (type_name_syntax n)) (fields_names fs)
fields_more (Element' star e e_span tag span) fs =
    one_part (expression_names (expression_node (expression_form e) e_span)) (fields_names fs)
fields_more (Method' n ps_shape ps rs_shape rs brackets span) fs =
    one_part (signature_names (signature_of (row_parameters ps) (row_parameters rs) brackets)) (fields_names fs)

-- Type parameters.

pub declared_more : (block : Span) (n : Identifier) (ns : List Identifier)
    → type_parameters_declared block (n ∷ ns) ≡ type_parameters_declared block (n ∷ []) ++ type_parameters_declared block ns
declared_more block n ns =
    one_part (declared record { name = n.text; number = n.span.start; kind = type_keyword; block = block; from = block.start; is_short = false })
    (type_parameters_declared block ns)

declared_joined : (block : Span) (ns ms : List Identifier)
    → type_parameters_declared block ns ++ type_parameters_declared block ms ≡ type_parameters_declared block (ns ++ ms)
declared_joined block [] ms = refl
declared_joined block (n ∷ ns) ms =
    ap (λ l. l ++ type_parameters_declared block ms) (declared_more block n ns)
    ∙ append_assoc (type_parameters_declared block (n ∷ [])) (type_parameters_declared block ns) (type_parameters_declared block ms)
    ∙ ap (λ l. type_parameters_declared block (n ∷ []) ++ l) (declared_joined block ns ms) ∙ sym (declared_more block n (ns ++ ms))

-- those that a receiver names, and those behind the function's name
pub type_parameters_joined : (made block : Span) (ns ms others : List Identifier)
    → made ≡ block
    → ms ≡ others
    → type_parameters_declared made ns ++ type_parameters_declared made ms ≡ type_parameters_declared block (ns ++ others)
type_parameters_joined made block ns ms others same equal =
    declared_joined made ns ms ∙ (λ i. type_parameters_declared (same i) (ns ++ equal i))

pub type_parameters_more : (block : Span) (p : Param) (ps : Parameters)
    → type_parameters_declared block (parameters_named (parameter_and p ps))
    ≡ type_parameters_declared block (parameters_named (parameter_and p no_parameter)) ++ type_parameters_declared block (parameters_named ps)
unfolding parameter_and
type_parameters_more block (NamedParam' n ellipsis t span) ps = declared_more block (identifier_syntax n) (parameters_named ps)
type_parameters_more block (Unnamed' ellipsis t span) ps = refl
type_parameters_more block (NameAlone n) ps = declared_more block (identifier_syntax n) (parameters_named ps)

-- those of a type, whose list the code reads as a slice
pub type_block : (made block : Span) (ps qs : List Param)
    → made ≡ block
    → ps ≡ qs
    → type_parameters_declared made (parameters_named (parameters_syntax ps))
    ≡ type_parameters_declared block (parameters_named (parameters_syntax qs))
type_block made block ps qs same equal = λ i. type_parameters_declared (same i) (parameters_named (parameters_syntax (equal i)))

pub specs_more : (block : Span) (keyword : DeclKeyword) (s : Spec) (ss : Specs)
    → specs_names block keyword (spec_and s ss) ≡ specs_names block keyword (spec_and s no_spec) ++ specs_names block keyword ss
unfolding specs_names spec_and
specs_more block keyword (Value' ns t shape es span) ss =
    three_parts (optional_names (held_expression t)) (expressions_names (row_expressions es))
    (declared_names keyword block span.end false (map identifier_syntax ns.items)) (specs_names block keyword ss)
specs_more block keyword (Type' n shape ps alias p t t_span span) ss =
    four_parts (type_declared block (identifier_syntax n))
    (type_parameters_declared (behind_name (identifier_syntax n) span) (parameters_named (row_parameters ps)))
    (parameters_names (row_parameters ps)) (expression_names (expression_node (expression_form t) t_span))
    (specs_names block keyword ss)

pub outer_specs_more : (s : Spec) (ss : Specs) → outer_specs_names (spec_and s ss) ≡ outer_specs_names (spec_and s no_spec) ++ outer_specs_names ss
unfolding spec_and
outer_specs_more (Value' ns t shape es span) ss =
    two_parts (optional_names (held_expression t)) (expressions_names (row_expressions es)) (outer_specs_names ss)
outer_specs_more (Type' n shape ps alias p t t_span span) ss =
    three_parts (type_parameters_declared (behind_name (identifier_syntax n) span) (parameters_named (row_parameters ps)))
    (parameters_names (row_parameters ps)) (expression_names (expression_node (expression_form t) t_span))
    (outer_specs_names ss)

abbrev pub case_names : Option Identifier → CaseClause → List Naming
case_names guard c =
    guard_declared guard (out-CaseClause c).span (expressions_syntax (out-CaseClause c).expressions.items)
    ++ (expressions_names (expressions_syntax (out-CaseClause c).expressions.items)
    ++ statements_names (out-CaseClause c).span (statements_syntax (out-CaseClause c).statements.items))

pub cases_more : (guard : Option Identifier) (c : CaseClause) (cs : CaseClauses)
    → cases_names guard (case_clause_and c cs) ≡ case_names guard c ++ cases_names guard cs
unfolding cases_names
cases_more guard c cs =
    ap (cases_names guard) (case_clause_and-out c cs)
    ∙ three_joined (guard_declared guard (out-CaseClause c).span (expressions_syntax (out-CaseClause c).expressions.items))
    (expressions_names (expressions_syntax (out-CaseClause c).expressions.items))
    (statements_names (out-CaseClause c).span (statements_syntax (out-CaseClause c).statements.items))
    (cases_names guard cs)

-- a clause, whose lists the code reads as slices
pub adds_case : (guard : Option Identifier) (clause : CaseClause) (a b c d : List KeptNaming) (ts es : List Expr) (ss : List Stmt)
    → ts ≡ (out-CaseClause clause).expressions.items
    → Adds a b (guard_declared guard (out-CaseClause clause).span (expressions_syntax ts))
    → es ≡ (out-CaseClause clause).expressions.items
    → Adds b c (expressions_names (expressions_syntax es))
    → ss ≡ (out-CaseClause clause).statements.items
    → Adds c d (statements_names (out-CaseClause clause).span (statements_syntax ss))
    → Adds a d (case_names guard clause)
adds_case guard clause a b c d ts es ss types first same second equal third =
    let o = out-CaseClause clause in
    let declared = guard_declared guard o.span (expressions_syntax o.expressions.items) in
    let listed = expressions_names (expressions_syntax o.expressions.items) in
    let body = statements_names o.span (statements_syntax o.statements.items) in
    adds_then a b d declared (listed ++ body)
    (adds_same a b (guard_declared guard o.span (expressions_syntax ts)) declared
    (ap (λ l. guard_declared guard o.span (expressions_syntax l)) types) first)
    (adds_then b c d listed body
    (adds_same b c (expressions_names (expressions_syntax es)) listed (ap (λ l. expressions_names (expressions_syntax l)) same) second)
    (adds_same c d (statements_names o.span (statements_syntax ss)) body (ap (λ l. statements_names o.span (statements_syntax l)) equal) third))

abbrev pub communication_names : CommClause → List Naming
communication_names c =
    optional_statement_names (out-CommClause c).span (optional_statement_syntax (out-CommClause c).communication)
    ++ statements_names (out-CommClause c).span (statements_syntax (out-CommClause c).statements.items)

pub communications_more : (c : CommClause) (cs : CommunicationClauses)
    → communications_names (communication_clause_and c cs) ≡ communication_names c ++ communications_names cs
unfolding communications_names
communications_more c cs =
    ap communications_names (communication_clause_and-out c cs)
    ∙ two_joined (optional_statement_names (out-CommClause c).span (optional_statement_syntax (out-CommClause c).communication))
    (statements_names (out-CommClause c).span (statements_syntax (out-CommClause c).statements.items))
    (communications_names cs)

-- a clause of a select, whose block the code asks for and whose list it reads as a slice
pub adds_communication : (clause : CommClause) (block : Span) (a b c : List KeptNaming) (ss : List Stmt)
    → block ≡ (out-CommClause clause).span
    → Adds a b (optional_statement_names block (optional_statement_syntax (out-CommClause clause).communication))
    → ss ≡ (out-CommClause clause).statements.items
    → Adds b c (statements_names block (statements_syntax ss))
    → Adds a c (communication_names clause)
adds_communication clause block a b c ss whole first same second =
    let o = out-CommClause clause in
    let header = optional_statement_names o.span (optional_statement_syntax o.communication) in
    let body = statements_names o.span (statements_syntax o.statements.items) in
    adds_then a b c header body
    (adds_same a b (optional_statement_names block (optional_statement_syntax o.communication)) header
    (ap (λ s. optional_statement_names s (optional_statement_syntax o.communication)) whole) first)
    (adds_same b c (statements_names block (statements_syntax ss)) body (λ i. statements_names (whole i) (statements_syntax (same i))) second)

-- The parts of a block and of a literal, as the code reads them.

pub block_braces-out : (b : Block) → block_braces b ≡ (out-Block b).span
block_braces-out b = λ i. (block_syntax-out b i).braces

pub literal_names : (at : ℕ) (l : Literal)
    → expression_form_names at (literal_syntax l) ≡ signature_names (signature_syntax (out-Literal l).signature)
    ++ (signature_declared (out-Block (out-Literal l).body).span (signature_syntax (out-Literal l).signature) ++ statements_names
    (out-Block (out-Literal l).body).span (statements_syntax (out-Block (out-Literal l).body).statements.items))
unfolding expression_form_names
literal_names at l =
    let s = signature_syntax (out-Literal l).signature in
    ap (expression_form_names at) (literal_syntax-out l)
    ∙ (λ i. let b = block_syntax-out (out-Literal l).body i in signature_names s ++ (signature_declared b.braces s ++ statements_names b.braces b.statements))

pub guard_same : (lent : Option (Bor KeptIdentifier)) (kept : Option KeptIdentifier)
    → option_copied lent ≡ kept
    → option_map (λ n. identifier_syntax n.now) lent ≡ option_map identifier_syntax kept
guard_same None kept same = ap (option_map identifier_syntax) same
guard_same (Some n) kept same = ap (option_map identifier_syntax) same

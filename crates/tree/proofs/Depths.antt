-- Steps of the code that finds a depth. The code's numbers are the depths, capped at the largest `u32`.
use Rattle.std.proofs.Common.{◌≡◌, ℕ, suc, ◌+◌, ◌<◌, ◌≤◌, min, max, List, [], ◌∷◌, drop, length, get_or, Option, Some, refl, sym, ap, ◌∙◌, arith}
use Rattle.std.specs.declared.alloc.Global.{Global}
use Rattle.std.specs.declared.boxed.Box.{Box}
use Rattle.std.proofs.lemmas.List.{drop_more, at_drop_all}
use Rattle.tree.specs.declared.declaration.Spec.{Spec, Value', Type'}
use Rattle.tree.specs.declared.expression.Expr.{Expr}
use Rattle.tree.specs.declared.expression.ExprKind.{ExprKind, KeyValue, KeyValue', FuncLit'}
use Rattle.tree.specs.declared.expression.Field.{Field, Named' as NamedField', Embedded, Element', Method'}
use Rattle.tree.specs.declared.expression.Literal.{Literal, Literal', out-Literal}
use Rattle.tree.specs.declared.expression.Param.{Param, Named' as NamedParam', Unnamed', NameAlone}
use Rattle.tree.specs.declared.expression.Signature.{Signature}
use Rattle.tree.specs.declared.statement.Block.{Block, out-Block}
use Rattle.tree.specs.declared.statement.CaseClause.{CaseClause, out-CaseClause}
use Rattle.tree.specs.declared.statement.CommClause.{CommClause, out-CommClause}
use Rattle.tree.specs.declared.statement.Stmt.{Stmt}
use Rattle.tree.specs.declared.statement.StmtKind.{StmtKind, Block as BlockStatement}
use Rattle.tree.specs.Syntax.{OptionalExpression, Parameters, no_parameter, Fields, no_field, Specs, no_spec, CaseClauses, CommunicationClauses}
use Rattle.tree.specs.Depth.{count_expression, count_else, expression_depth, below_expression, expressions_depth, optional_depth, signature_depth, parameters_depth, fields_depth, statement_depth, below_statement, statements_depth, optional_statement_depth, else_depth, cases_depth, communications_depth, specs_depth}
use Rattle.tree.specs.View.{expression_form, statement_form, literal_syntax, parameter_and, field_and, spec_and, case_clause_and, communication_clause_and, expression_syntax, expressions_syntax, parameters_syntax, signature_syntax, fields_syntax, statement_syntax, statements_syntax, optional_statement_syntax, cases_syntax, communications_syntax, specs_syntax}
use Rattle.tree.proofs.Views.{literal_syntax-out, block_syntax-out, case_clause_and-out, communication_clause_and-out}

-- the largest `u32`
abbrev pub capped : ℕ → ℕ
capped n = min 4294967295 n

pub drop_item : {X : Type 0} (xs : List X) (i : ℕ) (x : X) → i < length xs → x ≡ get_or xs i x → drop i xs ≡ x ∷ drop (i + 1) xs
drop_item xs i x h e = drop_more xs i x h ∙ ap (λ y. y ∷ drop (i + 1) xs) (sym e)

pub drop_past : {X : Type 0} (xs : List X) (i : ℕ) → length xs ≤ i → drop i xs ≡ []
drop_past xs i h = at_drop_all (λ l. l) xs i h

pub deeper_of : (r x y a b : ℕ) → r ≡ max x y → x ≡ capped a → y ≡ capped b → r ≡ capped (max a b)
deeper_of r x y a b e f g = omega (arith, e, f, g)

pub one_more : (r x a : ℕ) → r ≡ min (x + 1) 4294967295 → x ≡ capped a → r ≡ capped (suc a)
one_more r x a e f = omega (arith, e, f)

-- a loop's step: `d` is what was found so far, `f` the depth of the next item, `rest` of those after it
pub and_next : (d r e all f rest whole : ℕ) → max d (capped all) ≡ whole → all ≡ max f rest → r ≡ capped f → e ≡ max d r → max e (capped rest) ≡ whole
and_next d r e all f rest whole g h i j = omega (arith, g, h, i, j)

-- a loop's end: nothing is left
pub at_end : (d all whole : ℕ) → max d (capped all) ≡ whole → all ≡ 0 → d ≡ whole
at_end d all whole g h = omega (arith, g, h)

abbrev pub at_expression : Expr → ℕ
at_expression e = capped (expression_depth (expression_syntax e))

abbrev pub at_expressions : List Expr → ℕ
at_expressions es = capped (expressions_depth (expressions_syntax es))

abbrev pub at_bound : OptionalExpression → ℕ
at_bound e = capped (optional_depth e)

abbrev pub at_signature : Signature → ℕ
at_signature s = capped (signature_depth (signature_syntax s))

abbrev pub at_parameters : List Param → ℕ
at_parameters ps = capped (parameters_depth (parameters_syntax ps))

abbrev pub at_fields : List Field → ℕ
at_fields fs = capped (fields_depth (fields_syntax fs))

abbrev pub at_statement : Stmt → ℕ
at_statement s = capped (statement_depth (statement_syntax s))

abbrev pub at_statements : List Stmt → ℕ
at_statements ss = capped (statements_depth (statements_syntax ss))

abbrev pub at_cases : List CaseClause → ℕ
at_cases cs = capped (cases_depth (cases_syntax cs))

abbrev pub at_communications : List CommClause → ℕ
at_communications cs = capped (communications_depth (communications_syntax cs))

abbrev pub at_specs : List Spec → ℕ
at_specs ss = capped (specs_depth (specs_syntax ss))

pub literal_below : (l : Literal) → below_expression (literal_syntax l) ≡ max (signature_depth (signature_syntax (out-Literal l).signature)) (statements_depth (statements_syntax (out-Block (out-Literal l).body).statements.items))
unfolding below_expression
literal_below l =
    ap below_expression (literal_syntax-out l)
    ∙ (λ i. max (signature_depth (signature_syntax (out-Literal l).signature)) (statements_depth (block_syntax-out (out-Literal l).body i).statements))

pub max-zero : (a : ℕ) → a ≡ max a 0
max-zero a = omega arith

pub zero-max : (a : ℕ) → a ≡ max 0 a
zero-max a = omega arith

pub parameters_more : (p : Param) (ps : Parameters) → parameters_depth (parameter_and p ps) ≡ max (parameters_depth (parameter_and p no_parameter)) (parameters_depth ps)
unfolding parameters_depth parameter_and
parameters_more (NamedParam' n ellipsis t span) ps = ap (λ a. max a (parameters_depth ps)) (max-zero _)
parameters_more (Unnamed' ellipsis t span) ps = ap (λ a. max a (parameters_depth ps)) (max-zero _)
parameters_more (NameAlone n) ps = zero-max _

pub fields_more : (f : Field) (fs : Fields) → fields_depth (field_and f fs) ≡ max (fields_depth (field_and f no_field)) (fields_depth fs)
unfolding fields_depth field_and
fields_more (NamedField' ns t t_span tag span) fs = ap (λ a. max a (fields_depth fs)) (max-zero _)
fields_more (Embedded star n tag span) fs = zero-max _
fields_more (Element' star e e_span tag span) fs = ap (λ a. max a (fields_depth fs)) (max-zero _)
fields_more (Method' n ps_shape ps rs_shape rs brackets span) fs = ap (λ a. max a (fields_depth fs)) (max-zero _)

pub assoc : (a b c : ℕ) → max a (max b c) ≡ max (max a b) c
assoc a b c = omega arith

pub assoc-zero : (a b c : ℕ) → max a (max b c) ≡ max (max a (max b 0)) c
assoc-zero a b c = omega arith

pub specs_more : (s : Spec) (ss : Specs) → specs_depth (spec_and s ss) ≡ max (specs_depth (spec_and s no_spec)) (specs_depth ss)
unfolding specs_depth spec_and
specs_more (Value' ns t shape es span) ss = assoc-zero _ _ _
specs_more (Type' n shape ps alias p t t_span span) ss = assoc-zero _ _ _

pub cases_more : (c : CaseClause) (cs : CaseClauses) → cases_depth (case_clause_and c cs) ≡ max (max (expressions_depth (expressions_syntax (out-CaseClause c).expressions.items)) (statements_depth (statements_syntax (out-CaseClause c).statements.items))) (cases_depth cs)
unfolding cases_depth
cases_more c cs = ap cases_depth (case_clause_and-out c cs) ∙ assoc _ _ _

pub communications_more : (c : CommClause) (cs : CommunicationClauses) → communications_depth (communication_clause_and c cs) ≡ max (max (optional_statement_depth (optional_statement_syntax (out-CommClause c).communication)) (statements_depth (statements_syntax (out-CommClause c).statements.items))) (communications_depth cs)
unfolding communications_depth
communications_more c cs = ap communications_depth (communication_clause_and-out c cs) ∙ assoc _ _ _

-- what counts nothing, and what counts one

pub pair_counts_nothing : (k : ExprKind) (x y : Box Expr Global) (below : ℕ) → k ≡ KeyValue x y → count_expression (expression_form k) below ≡ below
unfolding expression_form
pair_counts_nothing k x y below e = ap (λ l. count_expression (expression_form l) below) e

pub other_counts_one : (k : ExprKind) (below : ℕ) → ((x y : Box Expr Global) → k ≡ KeyValue x y → ⊥) → count_expression (expression_form k) below ≡ suc below
unfolding expression_form
other_counts_one (KeyValue' p k k_span q v v_span) below not =
    absurd (not record { ptr = p.ptr; alloc = p.alloc; value = record { kind = k; span = k_span } } record { ptr = q.ptr; alloc = q.alloc; value = record { kind = v; span = v_span } } refl)
other_counts_one (FuncLit' p (Literal' ps_shape ps rs_shape rs brackets body)) below not = refl
other_counts_one _ below not = refl

pub block_counts_nothing : (k : StmtKind) (b : Block) (below : ℕ) → k ≡ BlockStatement b → count_else (statement_form k) below ≡ below
unfolding statement_form
block_counts_nothing k b below e = ap (λ l. count_else (statement_form l) below) e

pub if_counts_one : (k : StmtKind) (below : ℕ) → ((b : Block) → k ≡ BlockStatement b → ⊥) → count_else (statement_form k) below ≡ suc below
unfolding statement_form
if_counts_one (BlockStatement b) below not = absurd (not b refl)
if_counts_one _ below not = refl

pub else_of_block : (o : Option (Box Stmt Global)) (s : Box Stmt Global) (x y : Stmt) (b : Block) (r : ℕ) → o ≡ Some s → x ≡ s.value → y ≡ s.value → y.kind ≡ BlockStatement b → r ≡ capped (below_statement (statement_form x.kind)) → r ≡ capped (else_depth (optional_statement_syntax o))
unfolding else_depth
else_of_block o s x y b r some first second block e =
    e ∙ ap (λ (z : Stmt). capped (below_statement (statement_form z.kind))) first
    ∙ ap capped (sym (block_counts_nothing s.value.kind b _ (sym (ap (λ (z : Stmt). z.kind) second) ∙ block)))
    ∙ ap (λ p. capped (else_depth (optional_statement_syntax p))) (sym some)

pub else_of_if : (o : Option (Box Stmt Global)) (s : Box Stmt Global) (x y : Stmt) (r a : ℕ) → o ≡ Some s → x ≡ s.value → y ≡ s.value → ((b : Block) → y.kind ≡ BlockStatement b → ⊥) → a ≡ capped (below_statement (statement_form x.kind)) → r ≡ min (a + 1) 4294967295 → r ≡ capped (else_depth (optional_statement_syntax o))
unfolding else_depth
else_of_if o s x y r a some first second not e f =
    one_more r a _ f (e ∙ ap (λ (z : Stmt). capped (below_statement (statement_form z.kind))) first)
    ∙ ap capped (sym (if_counts_one s.value.kind _ (λ b h. not b (ap (λ (z : Stmt). z.kind) second ∙ h))))
    ∙ ap (λ p. capped (else_depth (optional_statement_syntax p))) (sym some)

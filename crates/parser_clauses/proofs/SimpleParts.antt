-- What expressions and statements that were read already turn out to be.
use Rattle.std.proofs.Common.{◌≡◌, ℕ, false, List, [], ◌∷◌, ◌++◌, map, length, reverse, Option, Some, None, refl, sym, ap, ◌∙◌}
use Rattle.std.specs.Prelude.{◌==◌}
use Rattle.tree.specs.declared.expression.Expr.{Expr}
use Rattle.tree.specs.declared.expression.ExprKind.{ExprKind, Name, FuncLit'}
use Rattle.tree.specs.declared.expression.Literal.{Literal'}
use Rattle.tree.specs.declared.statement.StmtKind.{StmtKind, Expr as ExprStatement, Expr'}
use Rattle.tree.specs.declared.span.Identifier.{Identifier as KeptIdentifier}
use Rattle.tree.specs.declared.span.Span.{Span}
use Rattle.tree.specs.Syntax.{Identifier}
use Rattle.tree.specs.View.{identifier_syntax, expression_form, statement_form, expression_syntax, expressions_syntax}
use Rattle.meaning.specs.Cursor.{GoText}
use Rattle.tree_reader.specs.Reader.{Readers, form_identifier, as_identifiers, single, expression_of}

pub no_name : (span : Span) (k : ExprKind) → ((s : List ℕ) → k ≡ Name s → ⊥) → form_identifier span (expression_form k) ≡ None
unfolding expression_form
no_name span (Name s) not = absurd (not s refl)
no_name span (FuncLit' p (Literal' ps_shape ps rs_shape rs brackets body)) not = refl
no_name span _ not = refl

pub name : (span : Span) (k : ExprKind) (n : KeptIdentifier) → k ≡ Name n.text → n.span ≡ span → form_identifier span (expression_form k) ≡ Some (identifier_syntax n)
unfolding expression_form
name span k n is same = rw (is, same) refl

pub no_expression_statement : (text : GoText) (r : Readers) (below : ℕ) (k : StmtKind) → ((e : Expr) → k ≡ ExprStatement e → ⊥) → expression_of text r below (statement_form k) ≡ None
unfolding statement_form
no_expression_statement text r below (Expr' e span) not = absurd (not (record { kind = e; span = span }) refl)
no_expression_statement text r below _ not = refl

pub expression_statement : (text : GoText) (r : Readers) (below : ℕ) (k : StmtKind) (e : Expr) → k ≡ ExprStatement e → expression_of text r below (statement_form k) ≡ Some (expression_syntax e)
unfolding statement_form
expression_statement text r below k e is = rw is refl

not_one : (front : List Expr) (e : Expr) → (length front == 0) ≡ false → single (expressions_syntax (front ++ e ∷ [])) ≡ None
not_one [] e some = absurd cc
not_one (x ∷ []) e some = refl
not_one (x ∷ y ∷ ys) e some = refl

pub not_single : (es front : List Expr) (e : Expr) (count : ℕ) → es ≡ front ++ e ∷ [] → count ≡ length front → (count == 0) ≡ false → single (expressions_syntax es) ≡ None
not_single es front e count is same some =
    ap (λ l. single (expressions_syntax l)) is ∙ not_one front e (ap (λ n. n == 0) (sym same) ∙ some)

-- names that were found before, and what the rest are
abbrev pub after_names : List Identifier → Option (List Identifier) → Option (List Identifier)
after_names front None = None
after_names front (Some ns) = Some (front ++ ns)

-- whether the rest of the expressions, of which the last comes first, complete the names
abbrev pub Completes : List KeptIdentifier → List Expr → Option (List Identifier) → Type 0
Completes names left total = after_names (map identifier_syntax names) (as_identifiers (expressions_syntax (reverse left))) ≡ total

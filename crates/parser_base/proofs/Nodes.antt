-- Nodes that are made of what was read.
use Rattle.std.proofs.Common.{◌≡◌, ℕ, false, Option, Some, List, refl, sym, ap, ◌∙◌}
use Rattle.std.specs.declared.alloc.Global.{Global}
use Rattle.std.specs.declared.boxed.Box.{Box}
use Rattle.tree.specs.declared.expression.Expr.{Expr}
use Rattle.tree.specs.declared.expression.ExprKind.{ExprKind, Name, Selector, Selector', FuncLit'}
use Rattle.tree.specs.declared.expression.Literal.{Literal'}
use Rattle.tree.specs.declared.span.Identifier.{Identifier as KeptIdentifier}
use Rattle.tree.specs.declared.span.Span.{Span}
use Rattle.tree.specs.Syntax.{Expression, expression_node, name_expression}
use Rattle.tree.specs.View.{expression_form}
use Rattle.meaning.specs.Cursor.{Cursor, GoText}
use Rattle.meaning.specs.WellFormed.{is_name_form, names_type_form}
use Rattle.tree_reader.specs.Reading.{behind, spanned, span_between, word_between}

abbrev pub IsNoName : ExprKind → Type 0
IsNoName k = (s : List ℕ) → k ≡ Name s → ⊥

pub no_name : (k : ExprKind) → IsNoName k → is_name_form (expression_form k) ≡ false
unfolding expression_form
no_name (Name s) not = absurd (not s refl)
no_name (FuncLit' p (Literal' ps_shape ps rs_shape rs brackets body)) not = refl
no_name _ not = refl

selector_form : (k : ExprKind) (qualifier : Box Expr Global) (n : KeptIdentifier) → k ≡ Selector qualifier n → names_type_form (expression_form k) ≡ is_name_form (expression_form qualifier.value.kind)
unfolding expression_form
selector_form k qualifier n e = ap (λ l. names_type_form (expression_form l)) e

pub no_package : (k : ExprKind) (qualifier : Box Expr Global) (n : KeptIdentifier) (e : Expr) → k ≡ Selector qualifier n → e ≡ qualifier.value → IsNoName e.kind → false ≡ names_type_form (expression_form k)
no_package k qualifier n e is same not =
    sym (selector_form k qualifier n is ∙ (ap (λ (x : Expr). is_name_form (expression_form x.kind)) (sym same) ∙ no_name e.kind not))

pub no_type_name : (k : ExprKind) → IsNoName k → ((qualifier : Box Expr Global) (n : KeptIdentifier) → k ≡ Selector qualifier n → ⊥) → false ≡ names_type_form (expression_form k)
unfolding expression_form
no_type_name (Name s) not other = absurd (not s refl)
no_type_name (Selector' p e span n) not other =
    absurd (other record { ptr = p.ptr; alloc = p.alloc; value = record { kind = e; span = span } } n refl)
no_type_name (FuncLit' p (Literal' ps_shape ps rs_shape rs brackets body)) not other = refl
no_type_name _ not other = refl

module _ (text : GoText) where
  pub name-read : (from end : Cursor) (e : Expression) (bytes : List ℕ) (span : Span) → e ≡ expression_node (name_expression bytes) span → bytes ≡ word_between text from (behind from) → end ≡ behind from → span ≡ span_between from end → ◌≡◌ {A = Option (Expression × Cursor)} (Some (spanned from (name_expression (word_between text from (behind from))) (behind from))) (Some (e, end))
  name-read from end e bytes span made written ends spans =
      ap (λ (x : Expression × Cursor). Some x) (rw (made, written, spans, ends) refl)

-- Calls, which are at least two deep.
use Rattle.std.proofs.Common.{◌≡◌, ℕ, Bool, ◌<◌, ◌≤◌, false, List, refl, sym, ap, ◌∙◌, arith}
use Rattle.std.specs.Prelude.{Some, None}
use Rattle.std.specs.declared.alloc.Global.{Global}
use Rattle.std.specs.declared.boxed.Box.{Box}
use Rattle.std.specs.declared.vec.Vec.{Vec}
use Rattle.tree.specs.declared.expression.Expr.{Expr}
use Rattle.tree.specs.declared.expression.ExprKind.{ExprKind, Call, Call', FuncLit', roll-ExprKind, roll-out-ExprKind}
use Rattle.tree.specs.declared.expression.ExprKind.TheVariants.{rolls-Call, outs-Call'}
use Rattle.tree.specs.declared.expression.Literal.{Literal'}
use Rattle.tree.specs.Syntax.{Expression, expression_node, name_expression, call_expression, StatementForm}
use Rattle.tree.specs.Depth.{expression_depth, below_expression}
use Rattle.tree.specs.View.{expression_form}
use Rattle.meaning.specs.Cursor.{Cursor, GoText}
use Rattle.meaning.specs.WellFormed.{primary_level, is_call, is_call_form}
use Rattle.tree_reader.specs.Reader.{readers, read_started}
use Rattle.tree_reader.specs.Reading.{Read, ◌>>=◌, only_where, behind, spanned_statement}
use Rattle.tree_reader.proofs.CompleteSignatures.{depth_high}
use Rattle.tree_reader.proofs.Sound.{readers-sound}

pub no_call : (k : ExprKind) → ((e : Box Expr Global) (es : Vec Expr Global) (ellipsis : Bool) → k ≡ Call e es ellipsis → ⊥) → false ≡ is_call_form (expression_form k)
unfolding expression_form
no_call (Call' p e span shape es ellipsis) not =
    absurd (not _ _ _ (sym (roll-out-ExprKind (Call' p e span shape es ellipsis)) ∙ (ap roll-ExprKind (outs-Call' p e span shape es ellipsis) ∙ rolls-Call _ _ ellipsis)))
no_call (FuncLit' p (Literal' ps_shape ps rs_shape rs brackets body)) not = refl
no_call _ not = refl

shallow_is_none : (e : Expression) (below : ℕ) → below < 2 → expression_depth e ≤ below → is_call e ≡ false
unfolding expression_depth below_expression
shallow_is_none (expression_node (call_expression e es ellipsis) span) below lt le =
    absurd (omega (arith, depth_high e, lt, le))
shallow_is_none (expression_node (name_expression name) span) below lt le = refl
shallow_is_none (expression_node _ span) below lt le = refl

module _ (text : GoText) (below : ℕ) (lt : below < 2) (form : Expression → StatementForm) (place : Cursor) where
  started_with : (read : Read Expression) → (readers text below).read_expression false primary_level (behind place) ≡ read → (read >>= (λ (e : Expression × Cursor). only_where (is_call e.0) (Some (spanned_statement place (form e.0) e.1)))) ≡ None
  started_with None h = refl
  started_with (Some x) h =
      rw (shallow_is_none x.0 below lt ((readers-sound text below).expression false primary_level (behind place) x.1 x.0 h).3) refl

  pub none-started : read_started text (readers text below) below form place ≡ None
  unfolding read_started
  none-started = started_with ((readers text below).read_expression false primary_level (behind place)) refl

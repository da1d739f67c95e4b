-- Values that are composite literals, and others; declarations of what itself has fields.
use Rattle.std.proofs.Common.{◌≡◌, Bool, true, false, not, ◌&&◌, ◌||◌, List, [], ◌∷◌, length, map, Option, Some, None, arith, refl, sym, ap, ◌∙◌}
use Rattle.std.specs.Prelude.{◌==◌}
use Rattle.std.specs.List.{list_any}
use Rattle.std.proofs.Math.Dec.{eqb-suc-zero}
use Rattle.std.specs.declared.alloc.Global.{Global}
use Rattle.std.specs.declared.boxed.Box.{Box}
use Rattle.std.specs.declared.vec.Vec.{Vec}
use Rattle.tree.specs.declared.expression.Expr.{Expr}
use Rattle.tree.specs.declared.expression.ExprKind.{ExprKind, CompositeLit, CompositeLit', FuncLit', roll-ExprKind, roll-out-ExprKind}
use Rattle.tree.specs.declared.expression.ExprKind.TheVariants.{rolls-CompositeLit, outs-CompositeLit'}
use Rattle.tree.specs.declared.expression.Literal.{Literal'}
use Rattle.tree.specs.declared.span.Identifier.{Identifier as KeptIdentifier}
use Rattle.tree.specs.declared.operator.DeclKeyword.TheVariants.{Var}
use Rattle.tree.specs.declared.span.Span.{Span}
use Rattle.tree.specs.Syntax.{Identifier, Expression, expression_node, composite_literal, Expressions, no_expression, expression_and, missing_expression, present_expression}
use Rattle.tree.specs.View.{expression_form, expressions_syntax, identifier_syntax}
use Rattle.tree.proofs.Views.{expression_form-CompositeLit}
use Rattle.meaning.specs.Mentions.{defines, declares, BodyPlace, Mark, mentions, of_fields, runs_literal, returns, opens, closes}
use Rattle.meaning.specs.Tracked.{placed, outer}
use Rattle.meaning.specs.Objects.{is_pointer, is_literal, is_value_row}
use Rattle.tracked_rows.specs.RowViews.{only_value_of}

pub composite_there : (k : ExprKind) (span : Span) (t : Box Expr Global) (es : Vec Expr Global) → k ≡ CompositeLit t es
    → true ≡ is_literal (expression_and (expression_node (expression_form k) span) no_expression)
composite_there k span t es is = rw (is, expression_form-CompositeLit t es) refl

pub composite_other : (k : ExprKind) (span : Span) → ((t : Box Expr Global) (es : Vec Expr Global) → k ≡ CompositeLit t es → ⊥)
    → false ≡ is_literal (expression_and (expression_node (expression_form k) span) no_expression)
unfolding expression_form
composite_other (CompositeLit' p t t_span shape es) span other =
    absurd (other _ _ (sym (roll-out-ExprKind (CompositeLit' p t t_span shape es))
    ∙ (ap roll-ExprKind (outs-CompositeLit' p t t_span shape es) ∙ rolls-CompositeLit _ _)))
composite_other (FuncLit' p (Literal' ps_shape ps rs_shape rs brackets body)) span other = refl
composite_other _ span other = refl

-- a literal is the only value
abbrev pub of_only : Option Expression → Bool
of_only None = false
of_only (Some e) = is_literal (expression_and e no_expression)

two_values : (e f : Expression) (es : Expressions) → false ≡ is_literal (expression_and e (expression_and f es))
two_values (expression_node (composite_literal t vs) span) f es = refl
two_values (expression_node _ span) f es = refl

pub literal_only : (es : Expressions) → of_only (only_value_of es) ≡ is_literal es
literal_only no_expression = refl
literal_only (expression_and e no_expression) = refl
literal_only (expression_and e (expression_and f es)) = two_values e f es

-- one name, or another number of them

module _ (es : Expressions) where
  pub one_defined : (ns : List KeptIdentifier) → length ns ≡ 1 → is_literal es ≡ is_value_row (defines (map identifier_syntax ns)) es
  one_defined [] one = absurd (omega (arith, one))
  one_defined (n ∷ []) one = refl
  one_defined (n ∷ m ∷ ns) one = absurd (omega (arith, one))

  pub one_declared : (ns : List KeptIdentifier) → length ns ≡ 1
      → is_literal es ≡ is_value_row (declares Var (map identifier_syntax ns) missing_expression) es
  one_declared [] one = absurd (omega (arith, one))
  one_declared (n ∷ []) one = refl
  one_declared (n ∷ m ∷ ns) one = absurd (omega (arith, one))

  pub others_defined : (ns : List KeptIdentifier) → (length ns ≡ 1 → ⊥) → false ≡ is_value_row (defines (map identifier_syntax ns)) es
  others_defined [] other = refl
  others_defined (n ∷ []) other = absurd (other refl)
  others_defined (n ∷ m ∷ ns) other = refl

  pub others_declared : (ns : List KeptIdentifier) → (length ns ≡ 1 → ⊥)
      → false ≡ is_value_row (declares Var (map identifier_syntax ns) missing_expression) es
  others_declared [] other = refl
  others_declared (n ∷ []) other = absurd (other refl)
  others_declared (n ∷ m ∷ ns) other = refl

-- names with a type

pub starred_row : (t : Expression) → true ≡ is_pointer (present_expression t) → (es : Expressions) (ns : List Identifier)
    → false ≡ is_value_row (declares Var ns (present_expression t)) es
starred_row t is no_expression [] = ap not is
starred_row t is no_expression (n ∷ []) = ap not is
starred_row t is no_expression (n ∷ m ∷ ns) = ap not is
starred_row t is (expression_and e es) [] = refl
starred_row t is (expression_and e es) (n ∷ []) = refl
starred_row t is (expression_and e es) (n ∷ m ∷ ns) = refl

pub unstarred_row : (t : Expression) → false ≡ is_pointer (present_expression t) → (es : List Expr) (ns : List Identifier)
    → (length es == 0) ≡ is_value_row (declares Var ns (present_expression t)) (expressions_syntax es)
unstarred_row t is [] [] = ap not is
unstarred_row t is [] (n ∷ []) = ap not is
unstarred_row t is [] (n ∷ m ∷ ns) = ap not is
unstarred_row t is (e ∷ es) [] = eqb-suc-zero (length es)
unstarred_row t is (e ∷ es) (n ∷ []) = eqb-suc-zero (length es)
unstarred_row t is (e ∷ es) (n ∷ m ∷ ns) = eqb-suc-zero (length es)

-- the bodies around a mark don't matter
module _ (test : Mark → Bool) (none : test closes ≡ false) where
  pub any_placed : (bs : List BodyPlace) (ms : List Mark) → list_any test ms ≡ list_any (λ p. test p.mark) (placed bs ms)
  unfolding placed
  any_placed bs [] = refl
  any_placed bs (mentions m ∷ ms) = ap (λ b. test (mentions m) || b) (any_placed bs ms)
  any_placed bs (of_fields site m ∷ ms) = ap (λ b. test (of_fields site m) || b) (any_placed bs ms)
  any_placed bs (runs_literal moment site at ∷ ms) = ap (λ b. test (runs_literal moment site at) || b) (any_placed bs ms)
  any_placed bs (returns at es ∷ ms) = ap (λ b. test (returns at es) || b) (any_placed bs ms)
  any_placed bs (opens b ∷ ms) = ap (λ t. test (opens b) || t) (any_placed (b ∷ bs) ms)
  any_placed bs (closes ∷ ms) = ap (λ t. t || list_any test ms) none ∙ any_placed (outer bs) ms

-- a test of two parts, of which the second is asked first
pub only_first : (r a b : Bool) → true ≡ b → r ≡ a → r ≡ (a && b)
only_first r true b is same = same ∙ is
only_first r false b is same = same

pub not_second : (a b : Bool) → false ≡ b → false ≡ (a && b)
not_second true b is = is
not_second false b is = refl

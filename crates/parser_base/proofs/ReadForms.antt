-- Which forms what was read has, where it is none of some.
use Rattle.std.proofs.Common.{◌≡◌, Bool, true, false, List, [], ◌∷◌, length, get_or, Option, Some, None, refl, sym, ap, ◌∙◌, arith}
use Rattle.std.specs.Prelude.{◌&&◌, ◌||◌, option_map}
use Rattle.std.specs.declared.alloc.Global.{Global}
use Rattle.std.specs.declared.boxed.Box.{Box}
use Rattle.std.specs.declared.vec.Vec.{Vec}
use Rattle.tree.specs.declared.expression.Expr.{Expr}
use Rattle.tree.specs.declared.expression.ExprKind.{ExprKind, Index, Index', Instance, Instance', Call, Call', Star, Star', Paren, Paren', Unary, Unary', Binary, Binary', ChanType, ChanType', FuncLit', roll-ExprKind, roll-out-ExprKind}
use Rattle.tree.specs.declared.expression.ExprKind.TheVariants.{rolls-Instance, outs-Instance', rolls-Call, outs-Call'}
use Rattle.tree.specs.declared.expression.Literal.{Literal'}
use Rattle.tree.specs.declared.operator.BinaryOperator.{BinaryOperator}
use Rattle.tree.specs.declared.operator.BinaryOperator.TheVariants.{Or, Multiply}
use Rattle.tree.specs.declared.operator.UnaryOperator.{UnaryOperator}
use Rattle.tree.specs.declared.operator.UnaryOperator.TheVariants.{Receive, Tilde}
use Rattle.tree.specs.declared.operator.ChanDirection.{ChanDirection}
use Rattle.tree.specs.Syntax.{Expression, Expressions, no_expression, expression_and, unary_expression, binary_expression, call_expression}
use Rattle.tree.specs.View.{expression_form, expression_syntax, expressions_syntax}
use Rattle.tree.proofs.Views.{expression_form-Unary}
use Rattle.meaning.specs.WellFormed.{is_name, is_instance_form, is_received, is_received_form, is_type, is_type_form, are_types, is_term_form, is_constraint, is_constraint_form}
use Rattle.meaning.specs.TypeParameters.{has_type, splits, splits_form, split_has_type, split_form_has_type, joins, joins_form}
use Rattle.tree_reader.specs.Reader.{single}

abbrev pub IsNoInstance : ExprKind → Type 0
IsNoInstance k = (e : Box Expr Global) (es : Vec Expr Global) → k ≡ Instance e es → ⊥

abbrev pub IsNoCall : ExprKind → Type 0
IsNoCall k = (e : Box Expr Global) (es : Vec Expr Global) (ellipsis : Bool) → k ≡ Call e es ellipsis → ⊥

abbrev pub IsNoBinary : ExprKind → Type 0
IsNoBinary k = (op : BinaryOperator) (l r : Box Expr Global) → k ≡ Binary op l r → ⊥

pub no_instance : (k : ExprKind) → ((e i : Box Expr Global) → k ≡ Index e i → ⊥) → IsNoInstance k → false ≡ is_instance_form (expression_form k)
unfolding expression_form
no_instance (Index' p e e_span q i i_span) index instance =
    absurd (index record { ptr = p.ptr; alloc = p.alloc; value = record { kind = e; span = e_span } } record { ptr = q.ptr; alloc = q.alloc; value = record { kind = i; span = i_span } } refl)
no_instance (Instance' p e span shape es) index instance =
    absurd (instance _ _ (sym (roll-out-ExprKind (Instance' p e span shape es)) ∙ (ap roll-ExprKind (outs-Instance' p e span shape es) ∙ rolls-Instance _ _)))
no_instance (FuncLit' p (Literal' ps_shape ps rs_shape rs brackets body)) index instance = refl
no_instance _ index instance = refl

pub received_other : (k : ExprKind) → ((direction : ChanDirection) (t : Box Expr Global) → k ≡ ChanType direction t → ⊥) → false ≡ is_received_form (expression_form k)
unfolding expression_form is_received
received_other (ChanType' direction p t span) not =
    absurd (not direction record { ptr = p.ptr; alloc = p.alloc; value = record { kind = t; span = span } } refl)
received_other (FuncLit' p (Literal' ps_shape ps rs_shape rs brackets body)) not = refl
received_other _ not = refl

pub type_unary : (op : UnaryOperator) (e : Expression) → (op ≡ Receive → ⊥) → false ≡ is_type_form (unary_expression op e)
unfolding is_type
type_unary Receive e not = absurd (not refl)
type_unary _ e not = refl

pub term_other : (k : ExprKind) → ((op : UnaryOperator) (e : Box Expr Global) → k ≡ Unary op e → ⊥) → is_type_form (expression_form k) ≡ is_term_form (expression_form k)
unfolding expression_form
term_other (Unary' op p e span) not =
    absurd (not op record { ptr = p.ptr; alloc = p.alloc; value = record { kind = e; span = span } } refl)
term_other (FuncLit' p (Literal' ps_shape ps rs_shape rs brackets body)) not = refl
term_other _ not = refl

pub term_unary : (op : UnaryOperator) (e : Expression) → (op ≡ Tilde → ⊥) → is_type_form (unary_expression op e) ≡ is_term_form (unary_expression op e)
term_unary Tilde e not = absurd (not refl)
term_unary _ e not = refl

-- the same of an operand in memory
pub term_operator : (k : ExprKind) (op : UnaryOperator) (e : Box Expr Global) → k ≡ Unary op e → (op ≡ Tilde → ⊥) → is_type_form (expression_form k) ≡ is_term_form (expression_form k)
term_operator k op e is not =
    let form = ap expression_form is ∙ expression_form-Unary op e in
    ap is_type_form form ∙ (term_unary op (expression_syntax e.value) not ∙ sym (ap is_term_form form))

pub constraint_other : (k : ExprKind) → IsNoBinary k → is_term_form (expression_form k) ≡ is_constraint_form (expression_form k)
unfolding expression_form is_constraint
constraint_other (Binary' op p l l_span q r r_span) not =
    absurd (not op record { ptr = p.ptr; alloc = p.alloc; value = record { kind = l; span = l_span } } record { ptr = q.ptr; alloc = q.alloc; value = record { kind = r; span = r_span } } refl)
constraint_other (FuncLit' p (Literal' ps_shape ps rs_shape rs brackets body)) not = refl
constraint_other _ not = refl

pub constraint_binary : (op : BinaryOperator) (l r : Expression) → (op ≡ Or → ⊥) → false ≡ is_constraint_form (binary_expression op l r)
unfolding is_constraint is_type
constraint_binary Or l r not = absurd (not refl)
constraint_binary _ l r not = refl

pub joins_other : (k : ExprKind) → IsNoBinary k → ((e : Box Expr Global) → k ≡ Star e → ⊥) → ((e : Box Expr Global) → k ≡ Paren e → ⊥) → false ≡ joins_form (expression_form k)
unfolding expression_form joins
joins_other (Binary' op p l l_span q r r_span) binary star paren =
    absurd (binary op record { ptr = p.ptr; alloc = p.alloc; value = record { kind = l; span = l_span } } record { ptr = q.ptr; alloc = q.alloc; value = record { kind = r; span = r_span } } refl)
joins_other (Star' p e span) binary star paren =
    absurd (star record { ptr = p.ptr; alloc = p.alloc; value = record { kind = e; span = span } } refl)
joins_other (Paren' p e span) binary star paren =
    absurd (paren record { ptr = p.ptr; alloc = p.alloc; value = record { kind = e; span = span } } refl)
joins_other (FuncLit' p (Literal' ps_shape ps rs_shape rs brackets body)) binary star paren = refl
joins_other _ binary star paren = refl

pub joins_binary : (op : BinaryOperator) (l r : Expression) → (op ≡ Or → ⊥) → false ≡ joins_form (binary_expression op l r)
unfolding joins
joins_binary Or l r not = absurd (not refl)
joins_binary _ l r not = refl

pub splits_other : (k : ExprKind) → IsNoBinary k → IsNoCall k → (false ≡ splits_form (expression_form k)) × (false ≡ split_form_has_type (expression_form k))
unfolding expression_form splits split_has_type
splits_other (Binary' op p l l_span q r r_span) binary call =
    absurd (binary op record { ptr = p.ptr; alloc = p.alloc; value = record { kind = l; span = l_span } } record { ptr = q.ptr; alloc = q.alloc; value = record { kind = r; span = r_span } } refl)
splits_other (Call' p e span shape es ellipsis) binary call =
    absurd (call _ _ _ (sym (roll-out-ExprKind (Call' p e span shape es ellipsis)) ∙ (ap roll-ExprKind (outs-Call' p e span shape es ellipsis) ∙ rolls-Call _ _ ellipsis)))
splits_other (FuncLit' p (Literal' ps_shape ps rs_shape rs brackets body)) binary call = (refl, refl)
splits_other _ binary call = (refl, refl)

pub splits_binary : (op : BinaryOperator) (l r : Expression) → (op ≡ Multiply → ⊥) → (op ≡ Or → ⊥) → (false ≡ splits_form (binary_expression op l r)) × (false ≡ split_form_has_type (binary_expression op l r))
unfolding splits split_has_type
splits_binary Multiply l r times or = absurd (times refl)
splits_binary Or l r times or = absurd (or refl)
splits_binary _ l r times or = (refl, refl)

-- Two tests, of which the second is asked only where the first leaves it open.

module _ (found a b : Bool) (tells : found ≡ a) where
  pub both_none : found ≡ false → found ≡ (a && b)
  both_none is = is ∙ sym (ap (λ x. x && b) (sym tells ∙ is))

  pub both_so : found ≡ true → (second : Bool) → second ≡ b → second ≡ (a && b)
  both_so is second told = told ∙ sym (ap (λ x. x && b) (sym tells ∙ is))

  pub either_so : found ≡ true → found ≡ (a || b)
  either_so is = is ∙ sym (ap (λ x. x || b) (sym tells ∙ is))

  pub either_other : found ≡ false → (second : Bool) → second ≡ b → second ≡ (a || b)
  either_other is second told = told ∙ sym (ap (λ x. x || b) (sym tells ∙ is))

-- calls with one argument, and others

pub splits_spread : (e : Expression) (es : Expressions) → (false ≡ splits_form (call_expression e es true)) × (false ≡ split_form_has_type (call_expression e es true))
unfolding splits split_has_type
splits_spread e no_expression = (refl, refl)
splits_spread e (expression_and y no_expression) = (refl, refl)
splits_spread e (expression_and y (expression_and z zs)) = (refl, refl)

pub splits_one : (e y : Expression) (es : Expressions) → single es ≡ Some y → (is_name e ≡ splits_form (call_expression e es false)) × (has_type y ≡ split_form_has_type (call_expression e es false))
unfolding splits split_has_type
splits_one e y no_expression one = absurd cc
splits_one e y (expression_and x no_expression) one = (refl, cc)
splits_one e y (expression_and x (expression_and z zs)) one = absurd cc

pub splits_more : (e : Expression) (es : Expressions) → single es ≡ None → (false ≡ splits_form (call_expression e es false)) × (false ≡ split_form_has_type (call_expression e es false))
unfolding splits split_has_type
splits_more e no_expression none = (refl, refl)
splits_more e (expression_and x no_expression) none = absurd cc
splits_more e (expression_and x (expression_and z zs)) none = (refl, refl)

pub only_one : (es : List Expr) (x : Expr) → length es ≡ 1 → Some (expression_syntax (get_or es 0 x)) ≡ single (expressions_syntax es)
only_one [] x one = absurd (omega (arith, one))
only_one (e ∷ []) x one = refl
only_one (e ∷ f ∷ es) x one = absurd (omega (arith, one))

pub only_none : (es : List Expr) → (length es ≡ 1 → ⊥) → None ≡ single (expressions_syntax es)
only_none [] other = refl
only_none (e ∷ []) other = absurd (other refl)
only_none (e ∷ f ∷ es) other = refl

-- what was found to be the only one, or that there is none
module _ {X : Type 0} (view : X → Expression) (o : Option X) (es : Expressions) (told : option_map view o ≡ single es) where
  pub single_is : (x : X) → o ≡ Some x → single es ≡ Some (view x)
  single_is x is = sym told ∙ ap (option_map view) is

  pub single_none : o ≡ None → single es ≡ None
  single_none is = sym told ∙ ap (option_map view) is

-- a list of which one is written as a type, or not

module _ (es rest : List Expr) (e : Expr) (first : es ≡ e ∷ rest) (total : Bool) (so_far : are_types (expressions_syntax es) ≡ total) where
  pub type_passed : is_type (expression_syntax e) ≡ true → are_types (expressions_syntax rest) ≡ total
  unfolding is_type
  type_passed is = sym (ap (λ l. are_types (expressions_syntax l)) first ∙ rw is refl) ∙ so_far

  pub type_missed : is_type (expression_syntax e) ≡ false → false ≡ total
  unfolding is_type
  type_missed is = sym (ap (λ l. are_types (expressions_syntax l)) first ∙ rw is refl) ∙ so_far

pub types_end : (es : List Expr) (total : Bool) → es ≡ [] → are_types (expressions_syntax es) ≡ total → true ≡ total
unfolding is_type
types_end es total none so_far = sym (ap (λ l. are_types (expressions_syntax l)) none) ∙ so_far

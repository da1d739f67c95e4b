-- The operand of a type switch, and the name before it.
use Rattle.std.proofs.Common.{◌≡◌, nat_le, true, false, List, [], ◌∷◌, map, Option, Some, None, refl, sym, ap, ◌∙◌}
use Rattle.std.specs.declared.alloc.Global.{Global}
use Rattle.std.specs.declared.boxed.Box.{Box}
use Rattle.std.specs.declared.vec.Vec.{Vec}
use Rattle.tree.specs.declared.declaration.Spec.TheBlock.{backs-StmtKind, shown-the_row-Expr-0}
use Rattle.tree.specs.declared.expression.Expr.{Expr}
use Rattle.tree.specs.declared.expression.ExprKind.{ExprKind, Star, Star', Unary, Unary', Binary, Binary', FuncLit'}
use Rattle.tree.specs.declared.expression.Literal.{Literal'}
use Rattle.tree.specs.declared.operator.BinaryOperator.{BinaryOperator}
use Rattle.tree.specs.declared.operator.BinaryOperator.TheVariants.{LogicalOr}
use Rattle.tree.specs.declared.operator.UnaryOperator.{UnaryOperator}
use Rattle.tree.specs.declared.span.Identifier.{Identifier as KeptIdentifier}
use Rattle.tree.specs.declared.statement.StmtKind.{StmtKind, Expr as ExprStatement, Expr', Define, Define'}
use Rattle.tree.specs.Syntax.{Expression, Expressions, no_expression, expression_and, define_statement}
use Rattle.tree.specs.View.{expression_form, expression_syntax, expressions_syntax, identifier_syntax, statement_form}
use Rattle.tree.proofs.Views.{statement_form-Define}
use Rattle.meaning.specs.WellFormed.{form_level, operator_level, primary_level}
use Rattle.tree_reader.specs.Reader.{Guard, primary_guard, single, type_guard}
use Rattle.parser_base.proofs.Faults.{fails_too}
use Rattle.parser_base.specs.declared.fault.Stop.{Stop}
use Rattle.parser_base.specs.Gives.{Stops}
use Rattle.parser_clauses.specs.Guards.{only}

below_primary : (op : BinaryOperator) → false ≡ nat_le primary_level (operator_level op)
below_primary LogicalOr = refl
below_primary _ = refl

pub primary-Binary : (k : ExprKind) (op : BinaryOperator) (l r : Box Expr Global) → k ≡ Binary op l r → false ≡ nat_le primary_level (form_level (expression_form k))
unfolding expression_form
primary-Binary k op l r is = rw is (below_primary op)

pub primary-Unary : (k : ExprKind) (op : UnaryOperator) (e : Box Expr Global) → k ≡ Unary op e → false ≡ nat_le primary_level (form_level (expression_form k))
unfolding expression_form
primary-Unary k op e is = rw is refl

pub primary-Star : (k : ExprKind) (e : Box Expr Global) → k ≡ Star e → false ≡ nat_le primary_level (form_level (expression_form k))
unfolding expression_form
primary-Star k e is = rw is refl

pub primary-other : (k : ExprKind) → ((e : Box Expr Global) → k ≡ Star e → ⊥) → ((op : UnaryOperator) (e : Box Expr Global) → k ≡ Unary op e → ⊥) → ((op : BinaryOperator) (l r : Box Expr Global) → k ≡ Binary op l r → ⊥) → true ≡ nat_le primary_level (form_level (expression_form k))
unfolding expression_form
primary-other (Star' p e span) star unary binary =
    absurd (star record { ptr = p.ptr; alloc = p.alloc; value = record { kind = e; span = span } } refl)
primary-other (Unary' op p e span) star unary binary =
    absurd (unary op record { ptr = p.ptr; alloc = p.alloc; value = record { kind = e; span = span } } refl)
primary-other (Binary' op p l l_span q r r_span) star unary binary =
    absurd (binary op record { ptr = p.ptr; alloc = p.alloc; value = record { kind = l; span = l_span } } record { ptr = q.ptr; alloc = q.alloc; value = record { kind = r; span = r_span } } refl)
primary-other (FuncLit' p (Literal' ps_shape ps rs_shape rs brackets body)) star unary binary = refl
primary-other _ star unary binary = refl

-- a type switch of what may be the only name and the only value
abbrev named_guard : Option KeptIdentifier → Option Expression → Option Guard
named_guard (Some n) (Some e) = primary_guard (Some (identifier_syntax n)) e
named_guard n e = None

define-read : (ns : List KeptIdentifier) (es : Expressions) → type_guard (define_statement (map identifier_syntax ns) es) ≡ named_guard (only ns) (single es)
define-read [] es = refl
define-read (n ∷ []) no_expression = refl
define-read (n ∷ []) (expression_and e no_expression) = refl
define-read (n ∷ []) (expression_and e (expression_and f es)) = refl
define-read (n ∷ m ∷ ns) es = refl

no_value : (n : Option KeptIdentifier) → named_guard n None ≡ None
no_value None = refl
no_value (Some n) = refl

module _ (k : StmtKind) where
  pub guard-Expr : (e : Expr) → k ≡ ExprStatement e → type_guard (statement_form k) ≡ primary_guard None (expression_syntax e)
  unfolding statement_form
  guard-Expr e is = rw is refl

  module _ (ns : Vec KeptIdentifier Global) (es : Vec Expr Global) (is : k ≡ Define ns es) where
    guard-Define : type_guard (statement_form k) ≡ named_guard (only ns.items) (single (expressions_syntax es.items))
    guard-Define = rw (is, statement_form-Define ns es) (define-read ns.items (expressions_syntax es.items))

    pub guard-named : (n : KeptIdentifier) (e : Expression) → only ns.items ≡ Some n → single (expressions_syntax es.items) ≡ Some e → type_guard (statement_form k) ≡ primary_guard (Some (identifier_syntax n)) e
    guard-named n e name value = guard-Define ∙ rw (name, value) refl

    pub guard-unnamed : only ns.items ≡ None → type_guard (statement_form k) ≡ None
    guard-unnamed none = guard-Define ∙ rw none refl

    pub guard-stops : (e : Stop) → Stops e (single (expressions_syntax es.items)) → Stops e (type_guard (statement_form k))
    guard-stops e h =
        fails_too e (single (expressions_syntax es.items)) (type_guard (statement_form k)) h (λ none. guard-Define ∙ (ap (named_guard (only ns.items)) none ∙ no_value (only ns.items)))

pub guard-other : (k : StmtKind) → ((e : Expr) → k ≡ ExprStatement e → ⊥) → ((ns : Vec KeptIdentifier Global) (es : Vec Expr Global) → k ≡ Define ns es → ⊥) → type_guard (statement_form k) ≡ None
unfolding statement_form
guard-other (Expr' e span) expression define = absurd (expression record { kind = e; span = span } refl)
guard-other (Define' ns shape es) expression define =
    absurd (define ns (shown-the_row-Expr-0 shape es) (sym (backs-StmtKind (Define' ns shape es))))
guard-other _ expression define = refl

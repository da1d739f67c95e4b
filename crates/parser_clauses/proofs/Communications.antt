-- Which statements a clause of a `select` can wait for.
use Rattle.std.proofs.Common.{◌≡◌, ℕ, suc, nat_eq, true, false, List, [], ◌∷◌, length, refl, sym, ◌∙◌}
use Rattle.std.proofs.Math.Dec.{eqb-suc-suc, eqb-suc-zero}
use Rattle.std.specs.declared.alloc.Global.{Global}
use Rattle.std.specs.declared.boxed.Box.{Box}
use Rattle.std.specs.declared.vec.Vec.{Vec}
use Rattle.tree.specs.declared.declaration.Spec.TheBlock.{backs-StmtKind, shown-the_row-Expr-0}
use Rattle.tree.specs.declared.expression.Expr.{Expr}
use Rattle.tree.specs.declared.span.Identifier.{Identifier as KeptIdentifier}
use Rattle.tree.specs.declared.statement.StmtKind.{StmtKind, Expr as ExprStatement, Expr', Send, Send', Assign, Assign', Define, Define'}
use Rattle.tree.specs.View.{statement_form, expressions_syntax}
use Rattle.tree.proofs.Views.{statement_form-Assign, statement_form-Define}
use Rattle.meaning.specs.Mentions.{is_one}
use Rattle.tree_reader.specs.Reader.{is_communication}

pub waits-Expr : (k : StmtKind) (e : Expr) → k ≡ ExprStatement e → true ≡ is_communication (statement_form k)
unfolding statement_form
waits-Expr k e is = rw is refl

pub waits-Send : (k : StmtKind) (c v : Box Expr Global) → k ≡ Send c v → true ≡ is_communication (statement_form k)
unfolding statement_form
waits-Send k c v is = rw is refl

one-is : (es : List Expr) → nat_eq (length es) 1 ≡ is_one (expressions_syntax es)
one-is [] = refl
one-is (e ∷ []) = refl
one-is (e ∷ f ∷ es) = eqb-suc-suc (suc (length es)) 0 ∙ eqb-suc-zero (length es)

pub waits-Assign : (k : StmtKind) (ls rs : Vec Expr Global) (count : ℕ) → k ≡ Assign ls rs → count ≡ length rs.items → nat_eq count 1 ≡ is_communication (statement_form k)
waits-Assign k ls rs count is same = rw (is, same, statement_form-Assign ls rs) (one-is rs.items)

pub waits-Define : (k : StmtKind) (ns : Vec KeptIdentifier Global) (rs : Vec Expr Global) (count : ℕ) → k ≡ Define ns rs → count ≡ length rs.items → nat_eq count 1 ≡ is_communication (statement_form k)
waits-Define k ns rs count is same = rw (is, same, statement_form-Define ns rs) (one-is rs.items)

pub waits-other : (k : StmtKind) → ((e : Expr) → k ≡ ExprStatement e → ⊥) → ((c v : Box Expr Global) → k ≡ Send c v → ⊥) → ((ls rs : Vec Expr Global) → k ≡ Assign ls rs → ⊥) → ((ns : Vec KeptIdentifier Global) (rs : Vec Expr Global) → k ≡ Define ns rs → ⊥) → false ≡ is_communication (statement_form k)
unfolding statement_form
waits-other (Expr' e span) expression send assign define = absurd (expression record { kind = e; span = span } refl)
waits-other (Send' p c c_span q v v_span) expression send assign define =
    absurd (send record { ptr = p.ptr; alloc = p.alloc; value = record { kind = c; span = c_span } } record { ptr = q.ptr; alloc = q.alloc; value = record { kind = v; span = v_span } } refl)
waits-other (Assign' ls_shape ls rs_shape rs) expression send assign define =
    absurd (assign (shown-the_row-Expr-0 ls_shape ls) (shown-the_row-Expr-0 rs_shape rs) (sym (backs-StmtKind (Assign' ls_shape ls rs_shape rs))))
waits-other (Define' ns shape rs) expression send assign define =
    absurd (define ns (shown-the_row-Expr-0 shape rs) (sym (backs-StmtKind (Define' ns shape rs))))
waits-other _ expression send assign define = refl

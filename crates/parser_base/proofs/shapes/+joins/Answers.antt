use Rattle.std.proofs.Common.{refl}
use Rattle.tree.proofs.Views.{expression_form-Binary, expression_form-Star, expression_form-Paren}
use Rattle.meaning.specs.TypeParameters.{joins}
use Rattle.parser_base.proofs.ReadForms.{both_none, both_so, joins_other, joins_binary}
use Rattle.parser_base.proofs.shapes.+joins.Goals as goal

pub returns-in-Star : goal.returns-in-Star
unfolding joins
returns-in-Star t c = rw (c.in-Star.is, expression_form-Star) refl

pub returns-in-Paren : goal.returns-in-Paren
unfolding joins
returns-in-Paren t c = rw (c.in-Paren.is, expression_form-Paren) refl

pub returns-in_default : goal.returns-in_default
unfolding joins
returns-in_default t c = joins_other _ c.in_default.not-Binary c.in_default.not-Star c.in_default.not-Paren

pub returns-then-joins : goal.returns-then-joins
unfolding joins
returns-then-joins t c =
    rw (c.in-Binary.is, expression_form-Binary, c.in-Or.is, ← c.deref.ensures, ← c.deref-then-joins.ensures)
    (both_so _ _ _ c.joins.ensures c.if-joins.true _ c.is_type.ensures)

pub returns-else-joins : goal.returns-else-joins
unfolding joins
returns-else-joins t c =
    rw (c.in-Binary.is, expression_form-Binary, c.in-Or.is, ← c.deref.ensures)
    (both_none _ _ _ c.joins.ensures c.if-joins.false)

pub returns-in_default-operator : goal.returns-in_default-operator
unfolding joins
returns-in_default-operator t c =
    rw (c.in-Binary.is, expression_form-Binary) (joins_binary _ _ _ c.in_default-operator.not-Or)

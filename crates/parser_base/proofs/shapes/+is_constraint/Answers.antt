use Rattle.std.proofs.Common.{◌∙◌}
use Rattle.tree.proofs.Views.{expression_form-Binary}
use Rattle.meaning.specs.WellFormed.{is_constraint}
use Rattle.parser_base.proofs.ReadForms.{both_none, both_so, constraint_other, constraint_binary}
use Rattle.parser_base.proofs.shapes.+is_constraint.Goals as goal

pub returns-then-is_constraint : goal.returns-then-is_constraint
unfolding is_constraint
returns-then-is_constraint t c =
    rw (c.in-Binary.is, expression_form-Binary, c.in-Or.is, ← c.deref.ensures, ← c.deref-then-is_constraint.ensures)
    (both_so _ _ _ c.is_constraint.ensures c.if-is_constraint.true _ c.is_term.ensures)

pub returns-else-is_constraint : goal.returns-else-is_constraint
unfolding is_constraint
returns-else-is_constraint t c =
    rw (c.in-Binary.is, expression_form-Binary, c.in-Or.is, ← c.deref.ensures)
    (both_none _ _ _ c.is_constraint.ensures c.if-is_constraint.false)

pub returns-in_default-operator : goal.returns-in_default-operator
unfolding is_constraint
returns-in_default-operator t c =
    rw (c.in-Binary.is, expression_form-Binary) (constraint_binary _ _ _ c.in_default-operator.not-Or)

pub returns-in_default : goal.returns-in_default
unfolding is_constraint
returns-in_default t c = c.is_term-in_default.ensures ∙ constraint_other _ c.in_default.not-Binary

use Rattle.tree.proofs.Views.{expression_form-Unary}
use Rattle.std.proofs.Common.{◌∙◌}
use Rattle.meaning.specs.WellFormed.{is_type}
use Rattle.parser_base.proofs.ReadForms.{term_other, term_operator}
use Rattle.parser_base.proofs.shapes.is_term.Goals as goal

pub returns-in-Tilde : goal.returns-in-Tilde
returns-in-Tilde c = rw (c.in-Unary.is, expression_form-Unary, c.in-Tilde.is, ← c.deref.ensures) c.is_type.ensures

pub returns-in_default-operator : goal.returns-in_default-operator
unfolding is_type
returns-in_default-operator c =
    c.is_type-in_default-operator.ensures ∙ term_operator _ _ _ c.in-Unary.is c.in_default-operator.not-Tilde

pub returns-in_default : goal.returns-in_default
unfolding is_type
returns-in_default c = c.is_type-in_default.ensures ∙ term_other _ c.in_default.not-Unary

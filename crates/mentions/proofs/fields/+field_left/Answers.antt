use Rattle.std.proofs.Common.{Some, sym, ap, option_map, ◌∙◌}
use Rattle.tree.specs.declared.expression.Expr.{Expr}
use Rattle.tree.specs.View.{identifier_syntax, expression_syntax}
use Rattle.tree.proofs.Views.{expression_form-Selector, expression_form-Paren}
use Rattle.meaning.specs.Mentions.{object_of, is_in_brackets, in_more_brackets}
use Rattle.mentions.proofs.FieldForms.{left_at, left_other}
use Rattle.mentions.proofs.fields.+field_left.Goals as goal

pub returns-in-Selector : goal.returns-in-Selector
returns-in-Selector t c =
    let f = identifier_syntax c.in-Selector.field in
    rw (c.in-Selector.is, expression_form-Selector, ← c.deref.ensures)
    (ap (λ n. Some (left_at f n c.is_in_brackets.result)) c.object_of.ensures
    ∙ ap (λ b. Some (left_at f (object_of (expression_syntax c.deref.result.now)) b))
    (c.is_in_brackets.ensures
    ∙ ap (λ (e : Expr). is_in_brackets (expression_syntax e)) (c.deref-in-Selector.ensures ∙ sym c.deref.ensures)))

pub returns-in-Paren : goal.returns-in-Paren
returns-in-Paren t c =
    rw (c.in-Paren.is, expression_form-Paren, ← c.deref-in-Paren.ensures)
    (c.in_more_brackets.ensures ∙ ap (option_map in_more_brackets) c.field_left.ensures)

pub returns-in_default : goal.returns-in_default
returns-in_default t c = left_other _ _ c.in_default.not-Selector c.in_default.not-Paren

use Rattle.std.proofs.Common.{None, ap, ◌∙◌}
use Rattle.meaning.specs.Mentions.{bare}
use Rattle.meaning.specs.Tracked.{left_name}
use Rattle.tree.specs.View.{expression_syntax, identifier_syntax}
use Rattle.tree.proofs.Views.{expression_form-Name, expression_form-Selector}
use Rattle.tracked_rows.specs.RowViews.{field_of}
use Rattle.tracked_rows.proofs.FieldLefts.{field_there, left_other}
use Rattle.tracked_rows.proofs.lefts.left_of_expression.Goals as goal

pub returns-in-Name : goal.returns-in-Name
returns-in-Name c =
    rw (c.in-Name.is, expression_form-Name)
    (c.left_of_named.ensures ∙ ap (λ text. left_name (bare text c.args.value.now.span.start) None) c.as_str.ensures)

pub returns-in-Selector : goal.returns-in-Selector
returns-in-Selector c =
    rw (c.in-Selector.is, expression_form-Selector, ← c.deref.ensures)
    (c.left_of_field.ensures ∙ ap (λ n. field_of n (identifier_syntax c.in-Selector.field)) c.as_bare.ensures
    ∙ field_there (expression_syntax c.deref.result.now) (identifier_syntax c.in-Selector.field) c.args.value.now.span)

pub returns-in_default : goal.returns-in_default
returns-in_default c = left_other _ _ c.in_default.not-Name c.in_default.not-Selector

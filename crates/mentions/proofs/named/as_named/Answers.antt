use Rattle.std.proofs.Common.{Some, ap, ◌∙◌}
use Rattle.meaning.specs.Mentions.{bare, select_from}
use Rattle.tree.specs.View.{identifier_syntax}
use Rattle.tree.proofs.Views.{expression_form-Name, expression_form-Selector}
use Rattle.mentions.proofs.Naming.{named_other}
use Rattle.mentions.proofs.named.as_named.Goals as goal

pub returns-in-Name : goal.returns-in-Name
returns-in-Name c =
    rw (c.in-Name.is, expression_form-Name)
    (ap (λ text. Some (bare text c.args.expression.now.span.start)) c.as_str.ensures)

pub returns-in-Selector : goal.returns-in-Selector
returns-in-Selector c =
    rw (c.in-Selector.is, expression_form-Selector, ← c.deref.ensures)
    (c.select_from.ensures ∙ ap (λ n. select_from n (identifier_syntax c.in-Selector.member)) c.as_bare.ensures)

pub returns-in_default : goal.returns-in_default
returns-in_default c = named_other _ _ c.in_default.not-Name c.in_default.not-Selector

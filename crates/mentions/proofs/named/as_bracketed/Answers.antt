use Rattle.std.proofs.Common.{ap, ◌∙◌}
use Rattle.meaning.specs.Mentions.{as_named}
use Rattle.tree.proofs.Views.{expression_form-Paren}
use Rattle.mentions.proofs.Naming.{bracketed_other}
use Rattle.mentions.proofs.named.as_bracketed.Goals as goal

pub returns-in-Paren : goal.returns-in-Paren
returns-in-Paren c =
    rw (c.in-Paren.is, expression_form-Paren, ← c.deref.ensures) (c.as_named.ensures ∙ ap as_named c.without_brackets.ensures)

pub returns-in_default : goal.returns-in_default
returns-in_default c = bracketed_other _ _ c.in_default.not-Paren

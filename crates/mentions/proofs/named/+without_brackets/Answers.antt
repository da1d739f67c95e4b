use Rattle.tree.proofs.Views.{expression_form-Paren}
use Rattle.mentions.proofs.Naming.{brackets_other}
use Rattle.mentions.proofs.named.+without_brackets.Goals as goal

pub returns-in-Paren : goal.returns-in-Paren
returns-in-Paren t c = rw (c.in-Paren.is, expression_form-Paren, ← c.deref.ensures) c.without_brackets.ensures

pub returns-in_default : goal.returns-in_default
returns-in_default t c = brackets_other _ _ c.in_default.not-Paren

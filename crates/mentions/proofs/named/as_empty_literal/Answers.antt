use Rattle.std.proofs.Common.{ap, ◌∙◌}
use Rattle.meaning.specs.Mentions.{as_named}
use Rattle.tree.specs.View.{expression_syntax}
use Rattle.mentions.proofs.Naming.{new_empty, new_filled, new_other}
use Rattle.mentions.proofs.named.as_empty_literal.Goals as goal

pub returns-then-is_empty : goal.returns-then-is_empty
returns-then-is_empty c =
    c.as_named.ensures
    ∙ (ap (λ e. as_named (expression_syntax e)) c.deref.ensures
    ∙ new_empty _ _ _ _ _ c.in-CompositeLit.is c.as_slice.ensures.value c.if-is_empty.ensures)

pub returns-else-is_empty : goal.returns-else-is_empty
returns-else-is_empty c = new_filled _ _ _ _ _ c.in-CompositeLit.is c.as_slice.ensures.value c.if-is_empty.ensures

pub returns-in_default : goal.returns-in_default
returns-in_default c = new_other _ _ c.in_default.not-CompositeLit

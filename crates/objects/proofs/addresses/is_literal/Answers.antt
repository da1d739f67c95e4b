use Rattle.std.proofs.Common.{ap, ◌∙◌}
use Rattle.tree.specs.View.{expressions_syntax}
use Rattle.objects.proofs.Literals.{of_only, literal_only}
use Rattle.objects.proofs.addresses.is_literal.Goals as goal

pub returns-in-Some : goal.returns-in-Some
returns-in-Some c =
    c.is_composite.ensures ∙ ap of_only (rw c.in-Some.is at c.only.ensures) ∙ literal_only (expressions_syntax c.args.values.now)

pub returns-in-None : goal.returns-in-None
returns-in-None c = ap of_only (rw c.in-None.is at c.only.ensures) ∙ literal_only (expressions_syntax c.args.values.now)

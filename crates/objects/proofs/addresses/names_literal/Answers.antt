use Rattle.std.proofs.Common.{◌∙◌}
use Rattle.tree.specs.View.{expressions_syntax}
use Rattle.objects.proofs.Literals.{one_defined, one_declared, others_defined, others_declared}
use Rattle.objects.proofs.addresses.names_literal.Goals as goal

pub returns-then-names-eq1-clause-defined : goal.returns-then-names-eq1-clause-defined
returns-then-names-eq1-clause-defined c =
    c.is_literal.ensures ∙ one_defined (expressions_syntax c.args.values.now) c.args.names.now c.if-names-eq1.true

pub returns-then-names-eq1-clause-declared : goal.returns-then-names-eq1-clause-declared
returns-then-names-eq1-clause-declared c =
    c.is_literal.ensures ∙ one_declared (expressions_syntax c.args.values.now) c.args.names.now c.if-names-eq1.true

pub returns-else-names-eq1-clause-defined : goal.returns-else-names-eq1-clause-defined
returns-else-names-eq1-clause-defined c =
    others_defined (expressions_syntax c.args.values.now) c.args.names.now c.if-names-eq1.false

pub returns-else-names-eq1-clause-declared : goal.returns-else-names-eq1-clause-declared
returns-else-names-eq1-clause-declared c =
    others_declared (expressions_syntax c.args.values.now) c.args.names.now c.if-names-eq1.false

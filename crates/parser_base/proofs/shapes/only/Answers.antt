use Rattle.parser_base.proofs.ReadForms.{only_none}
use Rattle.parser_base.proofs.shapes.only.Goals as goal

pub returns-else-expressions-eq1 : goal.returns-else-expressions-eq1
returns-else-expressions-eq1 c = only_none c.args.expressions.now c.if-expressions-eq1.false

use Rattle.std.proofs.Common.{ap}
use Rattle.tree.proofs.Views.{expression_form-LiteralValue}
use Rattle.tree.specs.Syntax.{expression_node}
use Rattle.tree_make.proofs.expression.literal_value.Goals as goal

pub returns : goal.returns
returns c = ap (λ form. expression_node form c.args.span) (expression_form-LiteralValue c.args.elements)

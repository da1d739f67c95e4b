use Rattle.std.proofs.Common.{ap}
use Rattle.tree.proofs.Views.{expression_form-InterfaceType}
use Rattle.tree.specs.Syntax.{expression_node}
use Rattle.tree_make.proofs.types.interface_type.Goals as goal

pub returns : goal.returns
returns c = ap (λ form. expression_node form c.args.span) (expression_form-InterfaceType c.args.fields)

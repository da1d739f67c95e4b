use Rattle.std.proofs.Common.{sym}
use Rattle.parser_base.proofs.Nodes.{no_name}
use Rattle.parser_base.proofs.shapes.is_name.Goals as goal

pub returns-in_default : goal.returns-in_default
returns-in_default c = sym (no_name _ c.in_default.not-Name)

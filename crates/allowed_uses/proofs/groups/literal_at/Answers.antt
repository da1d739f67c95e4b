use Rattle.allowed_uses.proofs.Forms.{function_there, other_there}
use Rattle.allowed_uses.proofs.groups.literal_at.Goals as goal

pub returns-in-FuncLit : goal.returns-in-FuncLit
returns-in-FuncLit c = function_there _ c.args.value.now.span _ c.in-FuncLit.is

pub returns-in_default : goal.returns-in_default
returns-in_default c = other_there _ c.args.value.now.span c.in_default.not-FuncLit

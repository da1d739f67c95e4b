use Rattle.parser_statements.proofs.ShallowCalls.{no_call}
use Rattle.parser_statements.proofs.statements.is_call.Goals as goal

pub returns-in_default : goal.returns-in_default
returns-in_default c = no_call _ c.in_default.not-Call

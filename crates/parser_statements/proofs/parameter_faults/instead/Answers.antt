use Rattle.parser_base.proofs.Faults.{stopped_too}
use Rattle.parser_statements.proofs.parameter_faults.instead.Goals as goal

pub returns-in-Unexpected : goal.returns-in-Unexpected
returns-in-Unexpected c = λ read h. stopped_too _ _ _ c.in-Unexpected.is read h

use Rattle.parser_base.proofs.Faults.{stopped_too}
use Rattle.parser_base.proofs.type_faults.earlier.Goals as goal

pub returns-else-is_behind : goal.returns-else-is_behind
returns-else-is_behind c = λ read h. stopped_too _ _ _ c.in-Unexpected.is read h

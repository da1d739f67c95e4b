use Rattle.lexer.proofs.Outcomes.{one_fault}
use Rattle.lexer.proofs.laws.one_fault.Goals as goal

pub returns : goal.returns
returns c = one_fault

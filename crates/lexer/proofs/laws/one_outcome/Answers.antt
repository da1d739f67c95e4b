use Rattle.lexer.proofs.Outcomes.{one_outcome}
use Rattle.lexer.proofs.laws.one_outcome.Goals as goal

pub returns : goal.returns
returns c = one_outcome

use Rattle.board.proofs.Answered.{outcome_is}
use Rattle.board.proofs.core_board.Core.into_outcomes.Goals as goal

pub returns-clause-places : goal.returns-clause-places
returns-clause-places g c = outcome_is _ _ _ _ c.self.invariant

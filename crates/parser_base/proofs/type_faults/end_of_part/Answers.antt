use Rattle.parser_base.proofs.TokensAhead.{few_past}
use Rattle.parser_base.proofs.type_faults.end_of_part.Goals as goal

pub loop-preserved : goal.loop-preserved
loop-preserved c = few_past _ _ _ _ c.nesting_past-nesting.ensures c.loop.invariant

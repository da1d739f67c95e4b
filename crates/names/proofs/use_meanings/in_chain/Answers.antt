use Rattle.names.proofs.UseChains.{goes_on}
use Rattle.names.proofs.use_meanings.in_chain.Goals as goal

pub loop-number-preserved : goal.loop-number-preserved
loop-number-preserved c =
    goes_on c.args.uses.now c.args.at c.loop-number.number _ c.loop-number-test.true c.loop-number.invariant
    c.in-Some.found.now c.in-Some.ensures.lookup.3.0 c.in-Some.ensures.lookup.1 c.min-number.result
    c.min-number.ensures c.if-found-at.false

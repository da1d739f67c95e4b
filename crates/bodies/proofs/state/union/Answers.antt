use Rattle.std.proofs.lemmas.Nat.{or_lt}
use Rattle.bodies.proofs.state.union.Goals as goal

pub returns-clause-fits : goal.returns-clause-fits
returns-clause-fits c = or_lt 64 c.args.word c.args.other c.ranges.word.fits c.ranges.other.fits

use Rattle.scopes.proofs.LastTypes.{last_ends}
use Rattle.scopes.proofs.declared.end_of_last.Goals as goal

pub returns-in-Some : goal.returns-in-Some
returns-in-Some c = last_ends c.args.end c.args.types.now c.in-Some.last.now c.in-Some.ensures.value

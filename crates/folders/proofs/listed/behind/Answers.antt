use Rattle.folders.proofs.Fronts.{stripped}
use Rattle.folders.proofs.listed.behind.Goals as goal

pub returns : goal.returns
returns c = stripped c.args.front.now c.args.name.now c.strip_prefix.result c.strip_prefix.ensures.cases

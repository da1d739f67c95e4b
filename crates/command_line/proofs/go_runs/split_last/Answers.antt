use Rattle.command_line.proofs.LastSlashes.{split_is}
use Rattle.command_line.proofs.go_runs.split_last.Goals as goal

pub returns : goal.returns
returns c = split_is c.args.name.now c.rsplit_once.result c.rsplit_once.ensures.cases

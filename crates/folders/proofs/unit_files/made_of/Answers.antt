use Rattle.std.proofs.Common.{codes}
use Rattle.folders.proofs.MadeNames.{before_is}
use Rattle.folders.proofs.unit_files.made_of.Goals as goal

pub returns : goal.returns
returns c = before_is (codes ".cgo1.go") c.args.name.now c.strip_suffix.result c.strip_suffix.ensures.cases

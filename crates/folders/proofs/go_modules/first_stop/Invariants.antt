use Rattle.folders.proofs.Cuts.{IsSoFar}
use Rattle.folders.specs.CutLines.{stops}
use Rattle.folders.proofs.go_modules.first_stop.Given as goal

abbrev pub invariant-loop-index : goal.invariant-loop-index
invariant-loop-index l = IsSoFar (stops l.stop) l.bytes l.index

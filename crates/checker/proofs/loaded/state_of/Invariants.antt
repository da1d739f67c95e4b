use Rattle.checker.proofs.LoadingRows.{IsGoing}
use Rattle.checker.proofs.loaded.state_of.Given as goal

abbrev pub invariant-loop-place : goal.invariant-loop-place
invariant-loop-place l = IsGoing l.variables l.masks l.place l.loading

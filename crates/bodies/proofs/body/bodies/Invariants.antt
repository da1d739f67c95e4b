use Rattle.bodies.proofs.BodiesTold.{TellsAt}
use Rattle.bodies.proofs.ZippedLists.{Zips}
use Rattle.bodies.proofs.body.bodies.Given as goal

-- what is kept of the places that are left completes what is kept of all
abbrev pub invariant-loop-place : goal.invariant-loop-place
invariant-loop-place l = Zips (TellsAt l.file l.told l.variables) l.place-items l.place-index l.bodies.items

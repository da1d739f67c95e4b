use Rattle.std.proofs.Common.{IfSome}
use Rattle.folders.specs.GoModules.{IsAbove}
use Rattle.folders.proofs.ModuleLines.{places_left}
use Rattle.folders.proofs.go_modules.module_above.Given as goal

-- the folder that is left is this one or above it
abbrev pub invariant-places : goal.invariant-places
invariant-places g l = IfSome l.left (λ place. IsAbove l.folder place.now)

abbrev pub decreases-places : goal.decreases-places
decreases-places g l = places_left l.left

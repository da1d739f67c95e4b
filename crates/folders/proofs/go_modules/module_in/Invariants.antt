use Rattle.std.proofs.Common.{◌≡◌, length}
use Rattle.folders.specs.GoModules.{module_in}
use Rattle.folders.proofs.go_modules.module_in.Given as goal

-- what is left says what the whole says
abbrev pub invariant-lines : goal.invariant-lines
invariant-lines l = module_in l.rest ≡ module_in l.text

abbrev pub decreases-lines : goal.decreases-lines
decreases-lines l = length l.rest

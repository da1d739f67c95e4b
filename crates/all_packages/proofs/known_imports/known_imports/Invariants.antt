use Rattle.std.proofs.Common.{drop}
use Rattle.all_packages.specs.Progress.{judged_in}
use Rattle.all_packages.proofs.JudgedImports.{KnowsSoFar}
use Rattle.all_packages.proofs.known_imports.known_imports.Given as goal

-- what is known, with what was judged at the places that are left, is the whole
abbrev pub invariant-loop-place : goal.invariant-loop-place
invariant-loop-place l = KnowsSoFar (judged_in l.progress) (drop l.place-index l.places) l.places l.known

use Rattle.std.proofs.Common.{drop}
use Rattle.std.specs.Prelude.{slice_get}
use Rattle.all_packages.proofs.JudgedImports.{KnowsSoFar}
use Rattle.explanations.proofs.known.known_imports.Given as goal

-- what is known, with what was judged at the places that are left, is the whole
abbrev pub invariant-loop-place : goal.invariant-loop-place
invariant-loop-place l = KnowsSoFar (slice_get l.judged) (drop l.place-index l.places) l.places l.known

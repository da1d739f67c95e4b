use Rattle.std.proofs.Common.{◌≡◌, ◌++◌, drop, map}
use Rattle.explanations.proofs.PackageWays.{AreExplainedTo}
use Rattle.explanations.specs.Plain.{judged_view, plain_view}
use Rattle.explanations.proofs.packages.explain.Given as goal

-- what was explained, with what is left, is the whole, and tells ways
abbrev pub invariant-loop-place : goal.invariant-loop-place
invariant-loop-place l =
    (map plain_view l.explained.items ++ map judged_view (drop l.place l.judged) ≡ map judged_view l.judged)
    × AreExplainedTo l.all.given.now l.judged l.place l.explained.items

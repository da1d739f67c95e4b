use Rattle.std.proofs.Common.{◌≡◌, drop, map}
use Rattle.explanations.specs.KeptUses.{asked_view, place_from}
use Rattle.explanations.proofs.asked.place_of.Given as goal

-- the first of those that are left is the first of all
abbrev pub invariant-loop-place : goal.invariant-loop-place
invariant-loop-place l =
    place_from (asked_view l.wanted) l.place (map asked_view (drop l.place l.asked))
    ≡ place_from (asked_view l.wanted) 0 (map asked_view l.asked)

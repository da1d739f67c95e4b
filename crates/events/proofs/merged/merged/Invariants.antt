use Rattle.std.proofs.Common.{◌≡◌, ℕ, drop, nat_eq}
use Rattle.indexmap.specs.IndexMap.{get, IsUnique}
use Rattle.events.specs.VariableViews.{both, merged_of}
use Rattle.events.proofs.merged.merged.Given as goal

-- what was joined, with what is left, is the whole
abbrev pub invariant-loop-sighting : goal.invariant-loop-sighting
invariant-loop-sighting l =
    ((body : ℕ) → both (get nat_eq l.bodies body) (merged_of body (drop l.sighting-index l.sightings)) ≡ merged_of body l.sightings)
    × IsUnique nat_eq l.bodies

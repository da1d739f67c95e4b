use Rattle.std.proofs.Common.{◌≡◌, ◌++◌, drop, map}
use Rattle.meaning.specs.Jumps.{jumps_among}
use Rattle.body_parts.specs.PartViews.{part_view}
use Rattle.body_parts.proofs.jumps.jumps_among.Given as goal

-- what was found with what is left is the whole
abbrev pub invariant-loop-part : goal.invariant-loop-part
invariant-loop-part l =
    l.jumps.items ++ jumps_among (map part_view (drop l.part-index l.parts)) ≡ jumps_among (map part_view l.parts)

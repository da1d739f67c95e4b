use Rattle.std.proofs.Common.{◌≡◌, map, drop}
use Rattle.meaning.specs.Uses.{are_members}
use Rattle.mentions.specs.MarkViews.{body_view}
use Rattle.tracked.specs.LocalViews.{local_view}
use Rattle.tracked_rows.specs.RowViews.{known_view}
use Rattle.allowed_uses.proofs.between.are_all_members.Given as goal

-- the test of the bodies that are left is that of all
abbrev pub invariant-loop-literal : goal.invariant-loop-literal
invariant-loop-literal l =
    are_members (known_view l.known) (local_view l.local) (map body_view (drop l.literal-index l.bodies))
    ≡ are_members (known_view l.known) (local_view l.local) (map body_view l.bodies)

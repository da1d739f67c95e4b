use Rattle.std.proofs.Common.{◌≡◌, drop, map}
use Rattle.std.specs.List.{list_any}
use Rattle.kept.specs.KeptViews.{is_spoiled_by, keep_view, write_view}
use Rattle.kept.proofs.sides.is_spoiled.Given as goal

-- what is told of those that are left is told of all
abbrev pub invariant-loop-write : goal.invariant-loop-write
invariant-loop-write l =
    list_any (is_spoiled_by (keep_view l.keep)) (map write_view (drop l.write-index l.writes))
    ≡ list_any (is_spoiled_by (keep_view l.keep)) (map write_view l.writes)

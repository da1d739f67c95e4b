use Rattle.std.proofs.Common.{◌≡◌, ◌≤◌, ◌-◌, ◌++◌, length, take, drop, map}
use Rattle.meaning.specs.Kept.{put_keep}
use Rattle.kept.specs.KeptViews.{keep_view}
use Rattle.kept.proofs.of_file.put_keep.Given as goal

-- it comes after those before the index
abbrev pub invariant-loop-index : goal.invariant-loop-index
invariant-loop-index l =
    (put_keep (keep_view l.keep) (map keep_view l.rows.items)
    ≡ map keep_view (take l.index l.rows.items) ++ put_keep (keep_view l.keep) (map keep_view (drop l.index l.rows.items)))
    × (l.index ≤ length l.rows.items)

abbrev pub decreases-loop-index : goal.decreases-loop-index
decreases-loop-index l = length l.rows.items - l.index

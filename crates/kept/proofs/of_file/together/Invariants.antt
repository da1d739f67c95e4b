use Rattle.std.proofs.Common.{◌≡◌, ◌≤◌, length, drop, map}
use Rattle.std.specs.List.{filter}
use Rattle.meaning.specs.Kept.{by_variable}
use Rattle.kept.specs.KeptViews.{belongs_in, keep_view}
use Rattle.kept.proofs.of_file.together.Given as goal

-- those from the index on stand by the numbers of their variables
abbrev pub invariant-loop-index : goal.invariant-loop-index
invariant-loop-index l =
    (map keep_view l.rows.items ≡ by_variable (filter (belongs_in l.sides) (map keep_view (drop l.index l.keeps))))
    × (l.index ≤ length l.keeps)

abbrev pub decreases-loop-index : goal.decreases-loop-index
decreases-loop-index l = l.index

use Rattle.std.proofs.Common.{◌≡◌, drop, map}
use Rattle.std.specs.List.{list_all}
use Rattle.meaning.specs.Kept.{agrees}
use Rattle.kept.specs.KeptViews.{keep_view}
use Rattle.kept.proofs.sides.all_agree.Given as goal

-- what is told of those that are left is told of all
abbrev pub invariant-loop-other : goal.invariant-loop-other
invariant-loop-other l =
    list_all (agrees (keep_view l.keep)) (map keep_view (drop l.other-index l.keeps))
    ≡ list_all (agrees (keep_view l.keep)) (map keep_view l.keeps)

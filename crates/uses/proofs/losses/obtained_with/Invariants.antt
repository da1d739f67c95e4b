use Rattle.std.proofs.Common.{◌≡◌, ◌++◌, drop, map, flat_map}
use Rattle.facts.specs.FactViews.{unless_view}
use Rattle.meaning.specs.Uses.{obtained_unless}
use Rattle.mentions.specs.MarkViews.{row_view}
use Rattle.tracked.specs.LocalViews.{seen_view}
use Rattle.uses.proofs.losses.obtained_with.Given as goal

-- what was added, with what the results that are left add, is the whole
abbrev pub invariant-loop-unless : goal.invariant-loop-unless
invariant-loop-unless l =
    l.lost.items
    ++ flat_map (obtained_unless (seen_view l.seen) (row_view l.row) l.error) (map unless_view (drop l.unless-index l.results))
    ≡ flat_map (obtained_unless (seen_view l.seen) (row_view l.row) l.error) (map unless_view l.results)

use Rattle.std.proofs.Common.{◌≡◌, ◌++◌, drop, map}
use Rattle.facts.specs.FactViews.{item_view}
use Rattle.meaning.specs.Tracked.{result_locals}
use Rattle.meaning.specs.Uses.{result_faults}
use Rattle.mentions.specs.MarkViews.{body_view}
use Rattle.tracked_rows.specs.RowViews.{known_view}
use Rattle.uses.specs.OutcomeViews.{fault_view}
use Rattle.uses.proofs.mark.add_results.Given as goal

-- what was added, with what the items that are left add, is the whole
abbrev pub invariant-loop-item : goal.invariant-loop-item
invariant-loop-item l =
    map fault_view l.faults.items
    ++ result_faults (result_locals (known_view l.known) (body_view l.body) (map item_view (drop l.item-index l.items)))
    ≡ map fault_view l.initial.faults.items
    ++ result_faults (result_locals (known_view l.known) (body_view l.body) (map item_view l.items))

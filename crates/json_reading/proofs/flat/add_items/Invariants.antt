use Rattle.std.proofs.Common.{◌≡◌, List, [], length}
use Rattle.json.specs.Json.{parse_map}
use Rattle.serde_json.specs.Data.{Data}
use Rattle.json_reading.specs.Standing.{items_at}
use Rattle.json_reading.proofs.ListsRead.{before}
use Rattle.json_reading.proofs.flat.add_items.Given as goal

-- what held of no items holds of those that were added
abbrev pub invariant-items : goal.invariant-items
invariant-items g l =
    (added : List Data)
    × (items_at l.depth l.initial.reader ≡ parse_map (before added) (items_at l.depth l.reader))
    × (g.A.AddItem.holds l.initial.items [] → g.A.AddItem.holds l.items added)

abbrev pub decreases-items : goal.decreases-items
decreases-items g l = length l.reader

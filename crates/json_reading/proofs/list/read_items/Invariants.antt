use Rattle.std.proofs.Common.{length}
use Rattle.json_reading.specs.Standing.{items_at}
use Rattle.json_reading.proofs.ListsRead.{Keeps}
use Rattle.json_reading.proofs.list.read_items.Given as goal

abbrev pub invariant-items : goal.invariant-items
invariant-items g l =
    Keeps (g.R.ReadItem.is_item l.items) (g.R.ReadItem.is_none l.items) (items_at l.depth l.initial.reader) (items_at l.depth l.reader) l.are_items
    l.found.items

abbrev pub decreases-items : goal.decreases-items
decreases-items g l = length l.reader

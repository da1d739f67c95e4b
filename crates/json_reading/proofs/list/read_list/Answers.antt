use Rattle.std.proofs.Common.{◌-◌, option_map, subst}
use Rattle.std.proofs.lemmas.Result.{IfOk-weaker}
use Rattle.json_reading.specs.Standing.{value_at, items_at}
use Rattle.json_reading.specs.Starting.{Starts}
use Rattle.json_reading.proofs.ListsRead.{list_as}
use Rattle.json_reading.proofs.list.read_list.Goals as goal

pub returns-then-depth-gt0-clause-ok : goal.returns-then-depth-gt0-clause-ok
returns-then-depth-gt0-clause-ok g c =
    let depth = c.args.depth in
    let start =
    subst (λ b. Starts depth c.args.reader.now b c.take_start.new.reader) c.in-List.is c.in_ok-begun.ensures.ok in
    IfOk-weaker c.read_items.result _ _
    (λ found read. list_as (g.R.ReadItem.is_item c.args.items.now) (g.R.ReadItem.is_none c.args.items.now) (value_at depth c.args.reader.now)
    (items_at (depth - 1) c.take_start.new.reader) c.read_items.new.reader (option_map (λ list. list.items) found)
    start.1 read) c.read_items.ensures.ok

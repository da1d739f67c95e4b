use Rattle.std.proofs.lemmas.Result.{IfOk-weaker}
use Rattle.json_reading.specs.Standing.{value_at, IsListOf, IsNoList}
use Rattle.json_reading.proofs.ItemsMade.{read_back}
use Rattle.json_reading.proofs.list.ListOfReadItem.read_item.Goals as goal

pub returns-clause-ok : goal.returns-clause-ok
returns-clause-ok g c =
    let items = c.args.self.now.items.now in
    IfOk-weaker c.read_list.result _ _ (λ found read.
    read_back (IsListOf (g.R.ReadItem.is_item items)) (λ list. list.items) (IsNoList (g.R.ReadItem.is_none items))
    (value_at c.args.depth c.args.reader.now) c.read_list.new.reader found read) c.read_list.ensures.ok

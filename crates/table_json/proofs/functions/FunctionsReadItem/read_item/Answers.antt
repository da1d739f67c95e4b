use Rattle.std.proofs.Common.{refl}
use Rattle.std.proofs.lemmas.Result.{IfOk-weaker}
use Rattle.json_reading.specs.Standing.{value_at}
use Rattle.table_json.proofs.FunctionsRead.{function_read}
use Rattle.table_json.proofs.functions.FunctionsReadItem.read_item.Goals as goal

pub read_made-requires : goal.read_made-requires
read_made-requires c = (refl, c.new-members.ensures.members)

pub returns-clause-ok : goal.returns-clause-ok
returns-clause-ok c =
    IfOk-weaker c.read_made.result _ _ (λ found read.
    function_read c.new-members.result.version c.args.self.now.version (value_at c.args.depth c.args.reader.now)
    c.read_made.new.reader found c.new-members.ensures.version read) c.read_made.ensures.ok

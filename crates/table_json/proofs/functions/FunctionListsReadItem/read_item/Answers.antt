use Rattle.std.proofs.Common.{map}
use Rattle.std.proofs.lemmas.Result.{IfOk-weaker}
use Rattle.json_reading.specs.Standing.{value_at, Refutes}
use Rattle.json_reading.proofs.ItemsMade.{read_back}
use Rattle.table_json.specs.MembersRead.{AreFunctionsIn}
use Rattle.table_json.specs.Tables.{entry_of}
use Rattle.table_json.proofs.functions.FunctionListsReadItem.read_item.Goals as goal

pub returns-clause-ok : goal.returns-clause-ok
returns-clause-ok c =
    let version = c.args.self.now.version in
    IfOk-weaker c.read_functions.result _ _ (λ found read.
    read_back (AreFunctionsIn version) (λ list. map entry_of list.items) (Refutes (AreFunctionsIn version))
    (value_at c.args.depth c.args.reader.now) c.read_functions.new.reader found read) c.read_functions.ensures.ok

use Rattle.std.proofs.Common.{string_bytes}
use Rattle.std.proofs.lemmas.Result.{IfOk-weaker}
use Rattle.json_reading.specs.Standing.{value_at, Refutes}
use Rattle.json_reading.proofs.ItemsMade.{read_back}
use Rattle.table_json.specs.MembersRead.{IsText}
use Rattle.table_json.proofs.functions.TextsReadItem.read_item.Goals as goal

pub returns-clause-ok : goal.returns-clause-ok
returns-clause-ok c =
    IfOk-weaker c.read_text.result _ _ (λ found read.
    read_back IsText string_bytes (Refutes IsText) (value_at c.args.depth c.args.reader.now) c.read_text.new.reader found
    read) c.read_text.ensures.ok

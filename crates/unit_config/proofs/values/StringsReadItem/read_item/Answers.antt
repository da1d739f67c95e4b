use Rattle.std.proofs.Common.{string_bytes}
use Rattle.std.proofs.lemmas.Result.{IfOk-weaker}
use Rattle.serde_json.specs.Find.{as_str}
use Rattle.json_reading.specs.Standing.{value_at}
use Rattle.unit_config.proofs.StringsRead.{read_as}
use Rattle.unit_config.proofs.values.StringsReadItem.read_item.Goals as goal

pub returns-clause-ok : goal.returns-clause-ok
returns-clause-ok c =
    IfOk-weaker c.read_string.result _ _
    (λ found read. read_as string_bytes as_str (value_at c.args.depth c.args.reader.now) c.read_string.new.reader found
    read) c.read_string.ensures.ok

use Rattle.std.proofs.lemmas.Result.{IfOk-weaker}
use Rattle.json_reading.specs.Standing.{value_at}
use Rattle.baseline_json.proofs.ValuesRead.{findings_read}
use Rattle.baseline_json.proofs.findings.read_findings.Goals as goal

pub returns-clause-ok : goal.returns-clause-ok
returns-clause-ok c =
    IfOk-weaker c.read_list.result _ _
    (λ found read. findings_read (value_at c.args.depth c.args.reader.now) c.read_list.new.reader found read)
    c.read_list.ensures.ok

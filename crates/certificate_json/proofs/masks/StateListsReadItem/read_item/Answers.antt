use Rattle.std.proofs.lemmas.Result.{IfOk-weaker}
use Rattle.json_reading.specs.Standing.{value_at, Refutes}
use Rattle.json_reading.proofs.ItemsMade.{read_back}
use Rattle.certificate_json.specs.Certificates.{rows_of}
use Rattle.certificate_json.specs.MembersRead.{AreStates}
use Rattle.certificate_json.proofs.masks.StateListsReadItem.read_item.Goals as goal

pub returns-clause-ok : goal.returns-clause-ok
returns-clause-ok c =
    IfOk-weaker c.read_states.result _ _ (λ found read.
    read_back AreStates rows_of (Refutes AreStates) (value_at c.args.depth c.args.reader.now) c.read_states.new.reader
    found read) c.read_states.ensures.ok

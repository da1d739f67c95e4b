use Rattle.std.proofs.Common.{refl}
use Rattle.serde_json.specs.Data.{object}
use Rattle.json_reading.proofs.ObjectsRead.{object_read}
use Rattle.json_reading.proofs.whole.ObjectWithReadItem.read_item.Goals as goal

pub returns-then-branch-clause-ok : goal.returns-then-branch-clause-ok
returns-then-branch-clause-ok c =
    let read =
    object_read _ _ _ _ c.in_ok-read_object.field-0 c.in_ok-read_object.ensures.ok c.if-branch.true (refl, refl) in
    record { value = object read.0; stands = read.1; judged = read.2.1 }

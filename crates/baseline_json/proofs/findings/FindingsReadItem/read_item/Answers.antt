use Rattle.std.proofs.Common.{option_map, string_bytes, ◌∙◌}
use Rattle.serde_json.specs.Data.{object}
use Rattle.json_reading.proofs.ObjectsRead.{object_read, no_object_read}
use Rattle.baseline_json.specs.BaselineValues.{entry_of, finding_in}
use Rattle.baseline_json.proofs.MembersRead.{finding_found, no_finding, no_finding_members}
use Rattle.baseline_json.proofs.ValuesRead.{judged}
use Rattle.baseline_json.proofs.findings.FindingsReadItem.read_item.Goals as goal

pub returns-then-branch-clause-ok : goal.returns-then-branch-clause-ok
returns-then-branch-clause-ok c =
    let read =
    object_read _ _ _ _ c.in_ok-read_object.field-0 c.in_ok-read_object.ensures.ok c.if-branch.true no_finding_members in
    let members = c.read_object.new.members in
    record {
      value = object read.0;
      stands = read.1;
      judged =
          judged entry_of finding_in (object read.0) c.finding_with.result
          (c.finding_with.ensures
          ∙ finding_found read.0 (option_map string_bytes members.file) (option_map string_bytes members.code)
          (option_map string_bytes members.name) members.was_accepted read.2);
    }

pub returns-else-branch-clause-ok : goal.returns-else-branch-clause-ok
returns-else-branch-clause-ok c =
    let none =
    no_object_read _ _ _ _ c.in_ok-read_object.field-0 c.in_ok-read_object.ensures.ok c.if-branch.false in
    record { value = none.0; stands = none.1; judged = no_finding none.0 none.2 }

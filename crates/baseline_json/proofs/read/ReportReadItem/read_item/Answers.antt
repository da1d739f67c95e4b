use Rattle.std.proofs.Common.{map, option_map, ◌∙◌}
use Rattle.serde_json.specs.Data.{object}
use Rattle.json_reading.proofs.ObjectsRead.{object_read, no_object_read}
use Rattle.baseline_json.specs.BaselineValues.{entries_of, entry_of, report_in}
use Rattle.baseline_json.proofs.MembersRead.{no_report, no_report_members, report_found}
use Rattle.baseline_json.proofs.ValuesRead.{judged}
use Rattle.baseline_json.proofs.read.ReportReadItem.read_item.Goals as goal

pub returns-then-branch-clause-ok : goal.returns-then-branch-clause-ok
returns-then-branch-clause-ok c =
    let read =
    object_read _ _ _ _ c.in_ok-read_object.field-0 c.in_ok-read_object.ensures.ok c.if-branch.true no_report_members in
    let members = c.read_object.new.members in
    record {
      value = object read.0;
      stands = read.1;
      judged =
          judged entries_of report_in (object read.0) c.report_with.result
          (c.report_with.ensures
          ∙ report_found read.0 (option_map (λ list. map entry_of list.items) members.findings) members.version read.2);
    }

pub returns-else-branch-clause-ok : goal.returns-else-branch-clause-ok
returns-else-branch-clause-ok c =
    let none =
    no_object_read _ _ _ _ c.in_ok-read_object.field-0 c.in_ok-read_object.ensures.ok c.if-branch.false in
    record { value = none.0; stands = none.1; judged = no_report none.0 none.2 }

use Rattle.std.proofs.Common.{sym, subst}
use Rattle.serde_json.specs.Data.{object}
use Rattle.json_reading.specs.Standing.{Judges, Refutes}
use Rattle.json_reading.proofs.ObjectsRead.{object_read}
use Rattle.table_json.specs.MembersRead.{IsParameter}
use Rattle.table_json.proofs.ParametersRead.{no_parameter_members, parameter_judged}
use Rattle.table_json.proofs.parameters.ParametersReadItem.read_item.Goals as goal

pub returns-then-branch-clause-ok : goal.returns-then-branch-clause-ok
returns-then-branch-clause-ok c =
    let read =
    object_read _ _ _ _ c.in_ok-read_object.field-0 c.in_ok-read_object.ensures.ok c.if-branch.true
    no_parameter_members in
    let members = c.read_object.new.members in
    record {
      value = object read.0;
      stands = read.1;
      judged =
          subst (Judges IsParameter (Refutes IsParameter) (object read.0)) (sym c.parameter_with.ensures)
          (parameter_judged read.0 members.has_other members.has_calls members.at members.calls members.kind read.2);
    }

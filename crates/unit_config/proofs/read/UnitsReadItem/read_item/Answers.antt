use Rattle.std.proofs.Common.{map, option_map, string_bytes}
use Rattle.serde_json.specs.Data.{object}
use Rattle.json_reading.proofs.ObjectsRead.{object_read, no_object_read}
use Rattle.unit_config.specs.KeyedTexts.{texts_of}
use Rattle.unit_config.proofs.UnitsRead.{no_unit, unit_judged}
use Rattle.unit_config.proofs.read.UnitsReadItem.read_item.Goals as goal

pub returns-then-not-branch-clause-ok : goal.returns-then-not-branch-clause-ok
returns-then-not-branch-clause-ok c =
    let none =
    no_object_read _ _ _ _ c.in_ok-read_object.field-0 c.in_ok-read_object.ensures.ok c.if-not-branch.true in
    record { value = none.0; stands = none.1; judged = no_unit none.0 none.2 }

pub returns-clause-ok : goal.returns-clause-ok
returns-clause-ok c =
    let read =
    object_read _ _ _ _ c.in_ok-read_object.field-0 c.in_ok-read_object.ensures.ok c.if-not-branch.false
    c.new-members.ensures in
    let members = c.read_object.new.members in
    record {
      value = object read.0;
      stands = read.1;
      judged =
          unit_judged read.0 (option_map string_bytes members.id) (option_map string_bytes members.folder)
          (option_map string_bytes members.path) (option_map string_bytes members.output)
          (option_map (λ list. map string_bytes list.items) members.files)
          (option_map texts_of members.imports) (option_map texts_of members.told) members.is_silent
          c.unit_with.result c.unit_with.ensures read.2;
    }

use Rattle.std.proofs.Common.{map, ap, ◌∙◌}
use Rattle.serde_json.specs.Data.{object}
use Rattle.json_reading.proofs.ObjectsRead.{object_read, no_object_read}
use Rattle.package_list.specs.ListRead.{all_told, kept_text}
use Rattle.package_list.proofs.ImportsRead.{no_imports, told_of}
use Rattle.package_list.proofs.import_map.read_imports.Goals as goal

pub returns-then-not-branch-clause-ok : goal.returns-then-not-branch-clause-ok
returns-then-not-branch-clause-ok c =
    let none =
    no_object_read _ _ _ _ c.in_ok-read_object.field-0 c.in_ok-read_object.ensures.ok c.if-not-branch.true in
    (none.0, none.1, no_imports none.0 none.2)

pub returns-clause-ok : goal.returns-clause-ok
returns-clause-ok c =
    let read =
    object_read _ _ _ _ c.in_ok-read_object.field-0 c.in_ok-read_object.ensures.ok c.if-not-branch.false
    (ap (map kept_text) c.new.ensures.empty)
    in
    (object read.0, read.1, c.in_ok-imports_of.ensures ∙ (ap all_told read.2 ∙ told_of read.0))

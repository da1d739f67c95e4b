use Rattle.std.proofs.Common.{Some, codes, option_and_then, option_map, refl, sym, ap, ◌∙◌}
use Rattle.serde_json.specs.Data.{object}
use Rattle.serde_json.specs.Find.{as_str}
use Rattle.json_reading.proofs.ObjectsRead.{object_read, no_object_read}
use Rattle.package_list.proofs.StringsRead.{nothing_under}
use Rattle.package_list.proofs.strings.read_module.Goals as goal

pub returns-then-branch-clause-ok : goal.returns-then-branch-clause-ok
returns-then-branch-clause-ok c =
    let read =
    object_read _ _ _ _ c.in_ok-read_object.field-0 c.in_ok-read_object.ensures.ok c.if-branch.true refl in
    (object read.0, read.1, c.with_path.ensures ∙ ap (option_map Some) read.2)

pub returns-else-branch-clause-ok : goal.returns-else-branch-clause-ok
returns-else-branch-clause-ok c =
    let none =
    no_object_read _ _ _ _ c.in_ok-read_object.field-0 c.in_ok-read_object.ensures.ok c.if-branch.false in (
      none.0,
      none.1,
      ap (λ o. option_map Some (option_and_then as_str o)) (sym (nothing_under (codes "Path") none.0 none.2)),
    )

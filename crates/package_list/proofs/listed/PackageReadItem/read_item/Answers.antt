use Rattle.std.proofs.Common.{map, option_map, string_bytes, ◌∙◌}
use Rattle.serde_json.specs.Data.{object}
use Rattle.json_reading.proofs.ObjectsRead.{object_read, no_object_read}
use Rattle.package_list.specs.ListedValues.{import_of, package_in, package_of}
use Rattle.package_list.proofs.MembersRead.{no_package, package_found}
use Rattle.package_list.proofs.StringsRead.{judged}
use Rattle.package_list.proofs.listed.PackageReadItem.read_item.Goals as goal

pub returns-then-not-branch-clause-ok : goal.returns-then-not-branch-clause-ok
returns-then-not-branch-clause-ok c =
    let none =
    no_object_read _ _ _ _ c.in_ok-read_object.field-0 c.in_ok-read_object.ensures.ok c.if-not-branch.true in
    record { value = none.0; stands = none.1; judged = no_package none.0 none.2 }

pub returns-clause-ok : goal.returns-clause-ok
returns-clause-ok c =
    let read =
    object_read _ _ _ _ c.in_ok-read_object.field-0 c.in_ok-read_object.ensures.ok c.if-not-branch.false
    c.new-members.ensures in
    let members = c.read_object.new.members in
    record {
      value = object read.0;
      stands = read.1;
      judged =
          judged package_of package_in (object read.0) c.package_with.result
          (c.package_with.ensures
          ∙ package_found read.0 (option_map string_bytes members.path) (option_map string_bytes members.folder)
          (option_map (λ list. map string_bytes list.items) c.in_ok-files.files)
          (option_map (λ list. map string_bytes list.items) members.go_files)
          (option_map (λ list. map string_bytes list.items) members.cgo_files)
          (option_map (option_map string_bytes) members.module_path) members.incomplete members.dep_only
          (option_map (λ list. map import_of list.items) members.imports) c.in_ok-files.ensures read.2);
    }

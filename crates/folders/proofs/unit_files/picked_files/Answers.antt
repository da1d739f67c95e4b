use Rattle.std.proofs.Common.{◌++◌, ◌∙◌, ap, map, string_bytes, sym}
use Rattle.std.proofs.lemmas.List.{append-nil, drop_all}
use Rattle.folders.specs.UnitFiles.{picked_file, picked_files}
use Rattle.folders.proofs.PickedNames.{next_picked}
use Rattle.folders.proofs.unit_files.picked_files.Goals as goal

pub loop-name-preserved : goal.loop-name-preserved
loop-name-preserved c =
    let l = c.loop-name in
    next_picked c.args.with_tests c.args.folder.now c.args.names.now l.name-index c.name-item.result c.loop-name-test.true
    c.name-item.is l.files.items c.keep_file.new.files.items c.in_ok-file.file _
    (c.in_ok-file.ensures ∙ ap (picked_file c.args.with_tests c.args.folder.now) c.as_str.ensures.value)
    c.in_ok-keep_file.ensures l.invariant

pub returns : goal.returns
returns c =
    let l = c.loop-name in
    let w = c.args.with_tests in
    let f = c.args.folder.now in
    sym (append-nil (map string_bytes l.files.items))
    ∙ (ap (λ ns. map string_bytes l.files.items ++ picked_files w f (map string_bytes ns))
    (sym (drop_all l.name-index c.args.names.now c.loop-name-test.false)) ∙ l.invariant)

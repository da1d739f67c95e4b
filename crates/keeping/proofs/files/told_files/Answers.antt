use Rattle.std.proofs.Common.{◌+◌, ap, map, drop}
use Rattle.silent_files.specs.WalkedFiles.{is_walked}
use Rattle.tree.proofs.Depths.{drop_item}
use Rattle.tree.specs.View.{file_syntax}
use Rattle.keeping.specs.Keeping.{each_known}
use Rattle.keeping.proofs.FilesNoted.{more_files}
use Rattle.keeping.proofs.files.told_files.Goals as goal

pub loop-number-preserved : goal.loop-number-preserved
loop-number-preserved c =
    let files = c.args.files.now in
    more_files (is_walked c.args.walked.now) (each_known c.args.known) c.loop-number.number
    (file_syntax c.index-files-number.result) (map file_syntax (drop (c.loop-number.number + 1) files))
    (map file_syntax (drop c.loop-number.number files)) c.is_walked.result c.loop-number.all.items c.push.new.self.items
    c.in_ok-one.one _ _
    (ap (map file_syntax) (drop_item files c.loop-number.number c.index-files-number.result c.loop-number-test.true
    c.index-files-number.is))
    c.is_walked.ensures c.in_ok-push.ensures.items c.in_ok-one.ensures.put c.in_ok-one.ensures.notes
    c.loop-number.invariant

use Rattle.std.proofs.Common.{◌+◌, ap, map, drop}
use Rattle.std.proofs.lemmas.List.{drop_all}
use Rattle.tree.specs.View.{file_syntax}
use Rattle.silent_files.specs.WalkedFiles.{is_walked}
use Rattle.calls_flags.specs.ToldFiles.{known_for}
use Rattle.calls_flags.proofs.ToldInOrder.{tells_first, tells_next, all_are_told}
use Rattle.calls_flags.proofs.KeptClaims.{drop_one}
use Rattle.calls_flags.proofs.told_file.tell_files.Goals as goal

pub loop-number-init : goal.loop-number-init
loop-number-init c =
    tells_first (is_walked c.args.telling.walked.now) (known_for c.args.telling) _ _ c.new-told.ensures.items

pub loop-number-preserved : goal.loop-number-preserved
loop-number-preserved c =
    let files = c.args.telling.files.now in
    tells_next (is_walked c.args.telling.walked.now) (known_for c.args.telling) c.loop-number.number
    (file_syntax c.index-files-number.result) (map file_syntax (drop (c.loop-number.number + 1) files))
    (map file_syntax (drop c.loop-number.number files)) (map file_syntax files) c.loop-number.told.items
    c.push.new.self.items c.in_ok-tell_at.field-0
    (ap (map file_syntax) (drop_one files c.loop-number.number c.index-files-number.result c.loop-number-test.true
    c.index-files-number.is))
    c.in_ok-push.ensures.items c.in_ok-tell_at.ensures c.loop-number.invariant

pub returns : goal.returns
returns c =
    all_are_told (is_walked c.args.telling.walked.now) (known_for c.args.telling) c.loop-number.number
    (map file_syntax (drop c.loop-number.number c.args.telling.files.now)) _ _
    (ap (map file_syntax) (drop_all c.loop-number.number c.args.telling.files.now c.loop-number-test.false))
    c.loop-number.invariant

use Rattle.std.proofs.Common.{IfOk, subst}
use Rattle.calls_flags.specs.ToldFiles.{known_for, TellsSeen}
use Rattle.silent_files.specs.WalkedFiles.{seen_if}
use Rattle.tree.specs.View.{file_syntax}
use Rattle.calls_flags.proofs.told_file.tell_at.Goals as goal

pub returns : goal.returns
returns c =
    subst (λ w. IfOk c.tell_if.result
    (TellsSeen (seen_if w (known_for c.args.telling c.args.number) (file_syntax c.args.file.now))))
    c.is_walked.ensures c.tell_if.ensures

use Rattle.std.proofs.Common.{refl, sym, subst}
use Rattle.calls_flags.specs.ToldFiles.{TellsSeen}
use Rattle.silent_files.specs.WalkedFiles.{seen_if}
use Rattle.tracked_rows.specs.RowViews.{known_view}
use Rattle.tree.specs.View.{file_syntax}
use Rattle.calls_flags.proofs.told_file.tell_if.Goals as goal

pub returns-else-walked : goal.returns-else-walked
returns-else-walked c =
    let known = known_view c.args.known in
    subst (λ w. TellsSeen (seen_if w known (file_syntax c.args.file.now)) c.silent.result) (sym c.if-walked.false)
    (c.silent.ensures known refl)

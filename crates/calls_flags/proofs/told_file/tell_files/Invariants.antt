use Rattle.std.proofs.Common.{map, drop}
use Rattle.tree.specs.View.{file_syntax}
use Rattle.calls_flags.proofs.ToldInOrder.{TellsOn}
use Rattle.calls_flags.specs.ToldFiles.{known_for}
use Rattle.silent_files.specs.WalkedFiles.{is_walked}
use Rattle.calls_flags.proofs.told_file.tell_files.Given as goal

-- what was told, with what is told of the files that are left, is told of all
abbrev pub invariant-loop-number : goal.invariant-loop-number
invariant-loop-number l =
    TellsOn (is_walked l.telling.walked.now) (known_for l.telling) l.number
    (map file_syntax (drop l.number l.telling.files.now)) (map file_syntax l.telling.files.now) l.told.items

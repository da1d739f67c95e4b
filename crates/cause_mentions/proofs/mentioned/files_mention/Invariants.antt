use Rattle.std.proofs.Common.{◌≡◌, drop, map}
use Rattle.cause_mentions.specs.CauseMentions.{files_mention}
use Rattle.cause_mentions.proofs.mentioned.files_mention.Given as goal
use Rattle.names.specs.Answers.{declared_at}
use Rattle.tree.specs.View.{file_syntax}

-- whether one of those that are left does is whether one of all does
abbrev pub invariant-loop-number : goal.invariant-loop-number
invariant-loop-number l =
    files_mention (declared_at l.names) l.number (map file_syntax (drop l.number l.files))
    ≡ files_mention (declared_at l.names) 0 (map file_syntax l.files)

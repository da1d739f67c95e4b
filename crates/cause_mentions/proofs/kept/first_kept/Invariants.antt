use Rattle.std.proofs.Common.{◌≡◌, drop}
use Rattle.cause_mentions.specs.CauseMentions.{first_kept}
use Rattle.cause_mentions.proofs.kept.first_kept.Given as goal
use Rattle.names.specs.Answers.{names_by_path}

-- the first of those that are left is the first of all
abbrev pub invariant-loop-loaded : goal.invariant-loop-loaded
invariant-loop-loaded l =
    first_kept (names_by_path l.names) (drop l.loaded-index l.packages) ≡ first_kept (names_by_path l.names) l.packages

use Rattle.std.proofs.Common.{map, drop}
use Rattle.command_line.specs.KeptWords.{IsKeptSo}
use Rattle.command_line.specs.Words.{named_after, named_by}
use Rattle.command_line.proofs.kept.kept_words.Given as goal

-- what is kept, with what the words that are left name, is what all of them name
abbrev pub invariant-loop-place : goal.invariant-loop-place
invariant-loop-place g l =
    IsKeptSo l.kept (named_after l.awaited (map g.S.AsStr.text (drop l.place l.words)))
    (named_by (map g.S.AsStr.text l.words))

use Rattle.std.proofs.Common.{◌≡◌, ◌++◌, map, drop}
use Rattle.command_line.specs.Words.{texts_of}
use Rattle.command_line.proofs.kept.add_all.Given as goal

-- what was added, with what is left, is the whole
abbrev pub invariant-loop-word : goal.invariant-loop-word
invariant-loop-word g l =
    texts_of l.kept.items ++ map g.S.AsStr.text (drop l.word-index l.words)
    ≡ texts_of l.initial.kept.items ++ map g.S.AsStr.text l.words

use Rattle.std.proofs.Common.{◌≡◌, None, map, drop}
use Rattle.command_line.specs.VetViews.{told_of}
use Rattle.command_line.specs.VetWords.{nothing_told, unit_after}
use Rattle.command_line.proofs.vet_asked.unit_words.Given as goal

-- what was told, with the words that are left, gives what all words give
abbrev pub invariant-loop-place : goal.invariant-loop-place
invariant-loop-place g l =
    unit_after l.awaited (told_of record { flags = l.told.0; wrong = l.told.1.0 }) (map g.S.AsStr.text (drop l.place l.words))
    ≡ unit_after None nothing_told (map g.S.AsStr.text l.words)

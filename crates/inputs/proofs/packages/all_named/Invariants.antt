use Rattle.std.proofs.Common.{drop}
use Rattle.command_line.specs.Words.{texts_of}
use Rattle.inputs.specs.Packages.{IsNamed}
use Rattle.inputs.proofs.ReadGiven.{GoesOn}
use Rattle.load.proofs.ZippedLists.{Zips}
use Rattle.inputs.proofs.packages.all_named.Given as goal

-- what is named by the words that are left completes what is named by all
abbrev pub invariant-loop-word : goal.invariant-loop-word
invariant-loop-word l =
    Zips IsNamed (texts_of l.words) (texts_of (drop l.word-index l.words)) l.packages.items
    × GoesOn (texts_of l.words) (texts_of (drop l.word-index l.words))

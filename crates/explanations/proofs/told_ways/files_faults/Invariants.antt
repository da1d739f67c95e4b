use Rattle.calls_flags.specs.KnownCalls.{known_calls}
use Rattle.explanations.proofs.ToldFiles.{AreTold}
use Rattle.explanations.specs.ToldViews.{ways_view}
use Rattle.explanations.proofs.told_ways.files_faults.Given as goal

-- the files before the number are told
abbrev pub invariant-loop-number : goal.invariant-loop-number
invariant-loop-number l = AreTold (known_calls l.calls) l.files l.number (ways_view l.ways.items)

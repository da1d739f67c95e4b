use Rattle.std.proofs.Common.{length}
use Rattle.silent_files.specs.WordsSought.{bytes_of, NoneOccurs}
use Rattle.silent_files.proofs.words.occur.Given as goal

-- those that were sought don't occur
abbrev pub invariant-loop-words : goal.invariant-loop-words
invariant-loop-words l = NoneOccurs (bytes_of l.words) l.text → NoneOccurs (bytes_of l.initial.words) l.text

abbrev pub decreases-loop-words : goal.decreases-loop-words
decreases-loop-words l = length l.words

use Rattle.std.proofs.Common.{◌≡◌, length}
use Rattle.std.specs.List.{list_any}
use Rattle.std.specs.Str.{bytes_eq}
use Rattle.silent_files.specs.WordsSought.{bytes_of}
use Rattle.silent_files.proofs.words.are_spelled.Given as goal

-- those that are left tell
abbrev pub invariant-loop-words : goal.invariant-loop-words
invariant-loop-words l =
    list_any (bytes_eq l.spelling) (bytes_of l.words) ≡ list_any (bytes_eq l.spelling) (bytes_of l.initial.words)

abbrev pub decreases-loop-words : goal.decreases-loop-words
decreases-loop-words l = length l.words

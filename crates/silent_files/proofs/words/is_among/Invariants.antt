use Rattle.std.proofs.Common.{◌≡◌, length}
use Rattle.std.specs.List.{list_any}
use Rattle.silent_files.specs.WordsSought.{bytes_of, is_one_of}
use Rattle.silent_files.proofs.words.is_among.Given as goal

-- those that are left tell
abbrev pub invariant-loop-tokens : goal.invariant-loop-tokens
invariant-loop-tokens l =
    list_any (is_one_of l.text (bytes_of l.words)) l.tokens
    ≡ list_any (is_one_of l.text (bytes_of l.words)) l.initial.tokens

abbrev pub decreases-loop-tokens : goal.decreases-loop-tokens
decreases-loop-tokens l = length l.tokens

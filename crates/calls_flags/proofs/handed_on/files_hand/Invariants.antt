use Rattle.std.proofs.Common.{◌≡◌, drop}
use Rattle.calls_flags.specs.HandedOn.{files_hand}
use Rattle.calls_flags.proofs.handed_on.files_hand.Given as goal

-- the test of those that are left is that of all
abbrev pub invariant-loop-file : goal.invariant-loop-file
invariant-loop-file l = files_hand l.path (drop l.file-index l.files) ≡ files_hand l.path l.files

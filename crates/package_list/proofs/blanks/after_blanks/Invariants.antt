use Rattle.std.proofs.Common.{◌≡◌, drop}
use Rattle.package_list.specs.Pieces.{after_blanks}
use Rattle.package_list.proofs.blanks.after_blanks.Given as goal

-- what is left begins as the whole does
abbrev pub invariant-loop-index : goal.invariant-loop-index
invariant-loop-index l = after_blanks (drop l.index l.bytes) ≡ after_blanks l.bytes

use Rattle.std.proofs.Common.{◌≡◌, ◌+◌, drop}
use Rattle.package_list.specs.Pieces.{plain_size}
use Rattle.package_list.proofs.blanks.plain_size.Given as goal

-- what was counted, with what is left, is the whole
abbrev pub invariant-loop-index : goal.invariant-loop-index
invariant-loop-index l = l.index + plain_size (drop l.index l.bytes) ≡ plain_size l.bytes

use Rattle.std.proofs.Common.{◌≡◌, take}
use Rattle.format_parts.specs.Pieces.{spelled}
use Rattle.format_parts.proofs.strings.plain_front.Given as goal

abbrev pub invariant-loop-index : goal.invariant-loop-index
invariant-loop-index l = spelled l.spelling (take l.index l.bytes) ≡ take l.index l.bytes

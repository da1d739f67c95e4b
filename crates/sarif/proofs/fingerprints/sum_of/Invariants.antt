use Rattle.std.proofs.Common.{◌≡◌, drop}
use Rattle.sarif.specs.Fingerprints.{sum_from}
use Rattle.sarif.proofs.fingerprints.sum_of.Given as goal

-- what is left completes the sum
abbrev pub invariant-loop-byte : goal.invariant-loop-byte
invariant-loop-byte l = sum_from l.sum (drop l.byte-index l.bytes) ≡ sum_from 0 l.bytes

use Rattle.std.proofs.Common.{◌≡◌, ◌++◌, drop, map}
use Rattle.accepting.specs.Findings.{finding_view, plain_finding}
use Rattle.accepting.proofs.merged.add_all.Given as goal

-- what was added, with what is left, is the whole
abbrev pub invariant-loop-diagnostic : goal.invariant-loop-diagnostic
invariant-loop-diagnostic l =
    map finding_view l.told.items ++ map plain_finding (drop l.diagnostic-index l.stale)
    ≡ map finding_view l.initial.told.items ++ map plain_finding l.stale

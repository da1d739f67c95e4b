use Rattle.std.proofs.Common.{◌≡◌, ◌++◌, drop, map}
use Rattle.accepting.specs.Findings.{finding_view, plain_finding}
use Rattle.accepting.proofs.found_packages.plain_findings.Given as goal

-- the findings so far, with those that are left, are all
abbrev pub invariant-loop-diagnostic : goal.invariant-loop-diagnostic
invariant-loop-diagnostic l =
    map finding_view l.findings.items ++ map plain_finding (drop l.diagnostic-index l.diagnostics)
    ≡ map plain_finding l.diagnostics

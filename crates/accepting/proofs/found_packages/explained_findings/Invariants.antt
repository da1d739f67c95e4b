use Rattle.std.proofs.Common.{◌≡◌, ◌++◌, map}
use Rattle.std.specs.Vec.Iter.{into_iter_items}
use Rattle.accepting.specs.Findings.{finding_view, explained_finding}
use Rattle.accepting.proofs.found_packages.explained_findings.Given as goal

-- the findings so far, with those that are left, are all
abbrev pub invariant-loop-diagnostic : goal.invariant-loop-diagnostic
invariant-loop-diagnostic l =
    map finding_view l.findings.items ++ map explained_finding (into_iter_items l.diagnostic-iterator)
    ≡ map explained_finding l.fn.diagnostics.items

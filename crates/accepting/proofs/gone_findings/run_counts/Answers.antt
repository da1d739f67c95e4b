use Rattle.std.proofs.Common.{◌+◌, [], ◌++◌, map, take, subst}
use Rattle.std.proofs.lemmas.List.{take_all}
use Rattle.accepting.specs.Findings.{finding_view, found_view}
use Rattle.accepting.specs.Gone.{keys_of_findings, keys_of_run}
use Rattle.accepting.specs.KeptKeys.{AreLeft}
use Rattle.accepting.proofs.GoneFindings.{package_next, seen_next}
use Rattle.accepting.proofs.KeyCounts.{none_left}
use Rattle.accepting.proofs.gone_findings.run_counts.Goals as goal

pub loop-one-init : goal.loop-one-init
loop-one-init c = none_left c.new-counts.result c.new-counts.ensures

pub loop-one-preserved : goal.loop-one-preserved
loop-one-preserved c =
    let ps = c.args.found.now in
    let i = c.loop-one.one-index in
    let p = c.one-item.result in
    package_next (map found_view (take i ps)) (map found_view (take (i + 1) ps)) (found_view p) c.loop-one.counts
    c.add_findings.new.counts (seen_next found_view ps i p c.loop-one-test.true c.one-item.is)
    (λ ks so.
    subst (λ fs. AreLeft (ks ++ keys_of_findings p.sources.now (map finding_view fs)) [] c.add_findings.new.counts)
    c.as_slice.ensures.value (c.in_ok-add_findings.ensures ks so))
    c.loop-one.invariant

pub returns : goal.returns
returns c =
    subst (λ ps. AreLeft (keys_of_run (map found_view ps)) [] c.loop-one.counts)
    (take_all c.loop-one.one-index c.args.found.now c.loop-one-test.false) c.loop-one.invariant

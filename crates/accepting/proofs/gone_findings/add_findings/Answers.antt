use Rattle.std.proofs.Common.{◌+◌, [], ◌++◌, map, take, sym, subst}
use Rattle.std.proofs.lemmas.List.{append-nil, take_all}
use Rattle.accepting.specs.Findings.{finding_view}
use Rattle.accepting.specs.Gone.{keys_of_findings}
use Rattle.accepting.specs.KeptKeys.{AreLeft}
use Rattle.accepting.proofs.GoneFindings.{finding_next, seen_next}
use Rattle.accepting.proofs.gone_findings.add_findings.Goals as goal

pub loop-finding-init : goal.loop-finding-init
loop-finding-init c = λ run so. subst (λ ks. AreLeft ks [] c.args.counts.now) (sym (append-nil run)) so

pub loop-finding-preserved : goal.loop-finding-preserved
loop-finding-preserved c = λ run so.
    let fs = c.args.findings.now in
    let i = c.loop-finding.finding-index in
    let f = c.finding-item.result in
    finding_next c.args.sources.now run (map finding_view (take i fs)) (map finding_view (take (i + 1) fs))
    (finding_view f) c.loop-finding.counts c.add_finding.new.counts
    (seen_next finding_view fs i f c.loop-finding-test.true c.finding-item.is) c.in_ok-add_finding.ensures
    (c.loop-finding.invariant run so)

pub returns : goal.returns
returns c = λ run so.
    subst (λ fs. AreLeft (run ++ keys_of_findings c.args.sources.now (map finding_view fs)) [] c.loop-finding.counts)
    (take_all c.loop-finding.finding-index c.args.findings.now c.loop-finding-test.false)
    (c.loop-finding.invariant run so)

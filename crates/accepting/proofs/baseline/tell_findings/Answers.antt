use Rattle.std.proofs.Common.{[], ◌∷◌, map, ap, ◌∙◌}
use Rattle.std.proofs.lemmas.List.{map-append}
use Rattle.std.specs.Vec.Iter.{into_iter_items}
use Rattle.accepting.specs.Findings.{finding_view}
use Rattle.accepting.proofs.ToldByBaseline.{findings_next}
use Rattle.accepting.proofs.baseline.tell_findings.Goals as goal

pub loop-finding-preserved : goal.loop-finding-preserved
loop-finding-preserved c = λ known before fits so.
    let at = c.loop-finding in
    let told = at.told.items in
    let one = c.in_ok-tell_finding.field-0 in
    findings_next known before c.args.sources.now (map finding_view c.args.findings.items)
    (map finding_view (into_iter_items at.finding-iterator)) (map finding_view (into_iter_items c.next.new.self))
    (map finding_view told) (map finding_view c.push.new.self.items) (finding_view c.in-Some.finding) (finding_view one)
    at.counts c.tell_finding.new.counts (ap (map finding_view) c.in-Some.ensures.steps.0)
    (ap (map finding_view) c.in_ok-push.ensures.items ∙ map-append finding_view told (one ∷ []))
    (λ stood are. c.in_ok-tell_finding.ensures known stood fits are)
    (at.invariant known before fits so)

use Rattle.std.proofs.Common.{refl, map, ◌∙◌, rules}
use Rattle.std.proofs.lemmas.Result.{err_from_is_err_and}
use Rattle.accepting.specs.Findings.{finding_view}
use Rattle.report_json.proofs.FindingPieces.{next_finding, none_left}
use Rattle.format_parts.proofs.Steps.{begins, goes_on, ends, stops}
use Rattle.report_json.proofs.json_report.write_findings.Goals as goal

pub loop-finding-init : goal.loop-finding-init
loop-finding-init g c = (begins _ _, refl, search rules)

pub loop-finding-preserved : goal.loop-finding-preserved
loop-finding-preserved g c =
    let l = c.loop-finding in
    let next = next_finding c.args.style c.args.sources.now c.args.fixes.now c.args.count (map finding_view c.args.findings.now) l.is_later c.args.findings.now l.finding-index c.finding-item.result c.loop-finding-test.true c.finding-item.is in
    let after_open = goes_on _ _ _ _ _ _ _ next l.invariant.0 c.in_ok-open_finding.ensures.taken in
    let after_cause = goes_on _ _ _ _ _ _ _ refl after_open c.in_ok-write_cause.ensures.taken in (
      goes_on _ _ _ _ _ _ _ refl after_cause c.in_ok-close_finding.ensures.taken,
      c.in_ok-close_finding.ensures.refusals ∙ (c.in_ok-write_cause.ensures.refusals ∙ (c.in_ok-open_finding.ensures.refusals ∙ l.invariant.1)),
      c.moved-cursor.ensures.at,
    )

pub returns-in_err-open_finding-clause-taken : goal.returns-in_err-open_finding-clause-taken
returns-in_err-open_finding-clause-taken g c =
    let l = c.loop-finding in
    let p = err_from_is_err_and c.from_residual.result c.from_residual.ensures.1 in
    let next = next_finding c.args.style c.args.sources.now c.args.fixes.now c.args.count (map finding_view c.args.findings.now) l.is_later c.args.findings.now l.finding-index c.finding-item.result c.loop-finding-test.true c.finding-item.is in
    stops _ _ _ _ _ _ _ next l.invariant.0 c.in_err-open_finding.ensures.taken _ p.0 p.1

pub returns-in_err-write_cause-clause-taken : goal.returns-in_err-write_cause-clause-taken
returns-in_err-write_cause-clause-taken g c =
    let l = c.loop-finding in
    let p = err_from_is_err_and c.from_residual-in_err-write_cause.result c.from_residual-in_err-write_cause.ensures.1 in
    let next = next_finding c.args.style c.args.sources.now c.args.fixes.now c.args.count (map finding_view c.args.findings.now) l.is_later c.args.findings.now l.finding-index c.finding-item.result c.loop-finding-test.true c.finding-item.is in
    let after_open = goes_on _ _ _ _ _ _ _ next l.invariant.0 c.in_ok-open_finding.ensures.taken in
    stops _ _ _ _ _ _ _ refl after_open c.in_err-write_cause.ensures.taken _ p.0 p.1

pub returns-in_err-close_finding-clause-taken : goal.returns-in_err-close_finding-clause-taken
returns-in_err-close_finding-clause-taken g c =
    let l = c.loop-finding in
    let p = err_from_is_err_and c.from_residual-in_err-close_finding.result c.from_residual-in_err-close_finding.ensures.1 in
    let next = next_finding c.args.style c.args.sources.now c.args.fixes.now c.args.count (map finding_view c.args.findings.now) l.is_later c.args.findings.now l.finding-index c.finding-item.result c.loop-finding-test.true c.finding-item.is in
    let after_open = goes_on _ _ _ _ _ _ _ next l.invariant.0 c.in_ok-open_finding.ensures.taken in
    let after_cause = goes_on _ _ _ _ _ _ _ refl after_open c.in_ok-write_cause.ensures.taken in
    stops _ _ _ _ _ _ _ refl after_cause c.in_err-close_finding.ensures.taken _ p.0 p.1

pub returns-clause-taken : goal.returns-clause-taken
returns-clause-taken g c =
    ends _ _ _ _ (none_left c.args.style c.args.sources.now c.args.fixes.now c.args.count (map finding_view c.args.findings.now) _ c.args.findings.now c.loop-finding.finding-index c.loop-finding-test.false) c.loop-finding.invariant.0

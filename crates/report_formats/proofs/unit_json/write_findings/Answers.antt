use Rattle.std.proofs.Common.{refl, ◌∙◌, rules}
use Rattle.std.proofs.lemmas.Result.{err_from_is_err_and}
use Rattle.format_parts.proofs.Steps.{begins, goes_on, ends, stops}
use Rattle.report_formats.proofs.UnitFindings.{next_told, none_told}
use Rattle.report_formats.proofs.unit_json.write_findings.Goals as goal

pub loop-finding-init : goal.loop-finding-init
loop-finding-init g c = (begins _ _, refl, search rules)

pub loop-finding-preserved : goal.loop-finding-preserved
loop-finding-preserved g c =
    let next = next_told c.args.style c.args.fixes.now c.args.sources.now c.loop-finding.is_later c.args.findings.now c.loop-finding.finding-index c.finding-item.result c.loop-finding-test.true c.finding-item.is _ c.comes_later-is_later.ensures in
    (goes_on _ _ _ _ _ _ _ next c.loop-finding.invariant.0 c.in_ok-write_told.ensures.taken, c.in_ok-write_told.ensures.refusals ∙ c.loop-finding.invariant.1, c.moved-cursor.ensures.at)

pub returns-in_err-write_told-clause-taken : goal.returns-in_err-write_told-clause-taken
returns-in_err-write_told-clause-taken g c =
    let p = err_from_is_err_and c.from_residual.result c.from_residual.ensures.1 in
    let next = next_told c.args.style c.args.fixes.now c.args.sources.now c.loop-finding.is_later c.args.findings.now c.loop-finding.finding-index c.finding-item.result c.loop-finding-test.true c.finding-item.is _ refl in
    stops _ _ _ _ _ _ _ next c.loop-finding.invariant.0 c.in_err-write_told.ensures.taken _ p.0 p.1

pub returns-clause-taken : goal.returns-clause-taken
returns-clause-taken g c = ends _ _ _ _ (none_told c.args.style c.args.fixes.now c.args.sources.now _ c.args.findings.now c.loop-finding.finding-index c.loop-finding-test.false) c.loop-finding.invariant.0

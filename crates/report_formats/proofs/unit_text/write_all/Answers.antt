use Rattle.std.proofs.Common.{refl, ap, ◌∙◌, flat_map, rules}
use Rattle.std.proofs.lemmas.List.{drop_all}
use Rattle.std.proofs.lemmas.Result.{err_from_is_err_and}
use Rattle.accepting.specs.Findings.{finding_view}
use Rattle.report_formats.specs.UnitText.{unit_told}
use Rattle.format_parts.proofs.Steps.{begins, goes_on, ends, stops}
use Rattle.report_formats.proofs.TextParts.{next_part}
use Rattle.report_formats.proofs.unit_text.write_all.Goals as goal

pub loop-finding-init : goal.loop-finding-init
loop-finding-init g c = (begins _ _, refl, search rules)

pub loop-finding-preserved : goal.loop-finding-preserved
loop-finding-preserved g c =
    let next = next_part (λ f. unit_told c.args.style c.args.around c.args.sources.now (finding_view f)) c.args.findings.now c.loop-finding.finding-index c.finding-item.result c.loop-finding-test.true c.finding-item.is in
    (goes_on _ _ _ _ _ _ _ next c.loop-finding.invariant.0 c.in_ok-write_told.ensures.taken, c.in_ok-write_told.ensures.refusals ∙ c.loop-finding.invariant.1, c.moved-cursor.ensures.at)

pub returns-in_err-write_told-clause-taken : goal.returns-in_err-write_told-clause-taken
returns-in_err-write_told-clause-taken g c =
    let p = err_from_is_err_and c.from_residual.result c.from_residual.ensures.1 in
    let next = next_part (λ f. unit_told c.args.style c.args.around c.args.sources.now (finding_view f)) c.args.findings.now c.loop-finding.finding-index c.finding-item.result c.loop-finding-test.true c.finding-item.is in
    stops _ _ _ _ _ _ _ next c.loop-finding.invariant.0 c.in_err-write_told.ensures.taken _ p.0 p.1

pub returns-clause-taken : goal.returns-clause-taken
returns-clause-taken g c =
    let none = ap (flat_map (λ f. unit_told c.args.style c.args.around c.args.sources.now (finding_view f))) (drop_all c.loop-finding.finding-index c.args.findings.now c.loop-finding-test.false) in
    ends _ _ _ _ none c.loop-finding.invariant.0

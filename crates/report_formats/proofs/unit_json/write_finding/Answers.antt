use Rattle.std.proofs.Common.{refl}
use Rattle.std.proofs.lemmas.Result.{err_from_is_err_and}
use Rattle.accepting.specs.Findings.{finding_view}
use Rattle.report_formats.proofs.UnitFindings.{finding_is}
use Rattle.format_parts.proofs.Steps.{begins, goes_on, stops, last_call}
use Rattle.report_formats.proofs.unit_json.write_finding.Goals as goal

pub returns-in_err-open_finding-clause-taken : goal.returns-in_err-open_finding-clause-taken
returns-in_err-open_finding-clause-taken g c =
    let p = err_from_is_err_and c.from_residual.result c.from_residual.ensures.1 in
    let parts = finding_is c.args.is_later c.args.style c.args.fixes.now c.args.sources.now (finding_view c.args.finding.now) _ refl in
    stops _ _ _ _ _ _ _ parts (begins _ _) c.in_err-open_finding.ensures.taken _ p.0 p.1

pub returns-in_err-write_reason-clause-taken : goal.returns-in_err-write_reason-clause-taken
returns-in_err-write_reason-clause-taken g c =
    let p = err_from_is_err_and c.from_residual-in_err-write_reason.result c.from_residual-in_err-write_reason.ensures.1 in
    let parts = finding_is c.args.is_later c.args.style c.args.fixes.now c.args.sources.now (finding_view c.args.finding.now) _ refl in
    let after_open_finding = goes_on _ _ _ _ _ _ _ parts (begins _ _) c.in_ok-open_finding.ensures.taken in
    stops _ _ _ _ _ _ _ refl after_open_finding c.in_err-write_reason.ensures.taken _ p.0 p.1

pub returns-in_err-put_all-clause-taken : goal.returns-in_err-put_all-clause-taken
returns-in_err-put_all-clause-taken g c =
    let p = err_from_is_err_and c.from_residual-in_err-put_all.result c.from_residual-in_err-put_all.ensures.1 in
    let parts = finding_is c.args.is_later c.args.style c.args.fixes.now c.args.sources.now (finding_view c.args.finding.now) _ refl in
    let after_open_finding = goes_on _ _ _ _ _ _ _ parts (begins _ _) c.in_ok-open_finding.ensures.taken in
    let after_write_reason = goes_on _ _ _ _ _ _ _ refl after_open_finding c.in_ok-write_reason.ensures.taken in
    stops _ _ _ _ _ _ _ refl after_write_reason c.in_err-put_all.ensures.taken _ p.0 p.1

pub returns-in_err-write_related-clause-taken : goal.returns-in_err-write_related-clause-taken
returns-in_err-write_related-clause-taken g c =
    let p = err_from_is_err_and c.from_residual-in_err-write_related.result c.from_residual-in_err-write_related.ensures.1 in
    let parts = finding_is c.args.is_later c.args.style c.args.fixes.now c.args.sources.now (finding_view c.args.finding.now) _ c.deref.ensures.value in
    let after_open_finding = goes_on _ _ _ _ _ _ _ parts (begins _ _) c.in_ok-open_finding.ensures.taken in
    let after_write_reason = goes_on _ _ _ _ _ _ _ refl after_open_finding c.in_ok-write_reason.ensures.taken in
    let after_put_all = goes_on _ _ _ _ _ _ _ refl after_write_reason c.in_ok-put_all.ensures.taken in
    stops _ _ _ _ _ _ _ refl after_put_all c.in_err-write_related.ensures.taken _ p.0 p.1

pub returns-in_err-write_fix-clause-taken : goal.returns-in_err-write_fix-clause-taken
returns-in_err-write_fix-clause-taken g c =
    let p = err_from_is_err_and c.from_residual-in_err-write_fix.result c.from_residual-in_err-write_fix.ensures.1 in
    let parts = finding_is c.args.is_later c.args.style c.args.fixes.now c.args.sources.now (finding_view c.args.finding.now) _ c.deref.ensures.value in
    let after_open_finding = goes_on _ _ _ _ _ _ _ parts (begins _ _) c.in_ok-open_finding.ensures.taken in
    let after_write_reason = goes_on _ _ _ _ _ _ _ refl after_open_finding c.in_ok-write_reason.ensures.taken in
    let after_put_all = goes_on _ _ _ _ _ _ _ refl after_write_reason c.in_ok-put_all.ensures.taken in
    let after_write_related = goes_on _ _ _ _ _ _ _ refl after_put_all c.in_ok-write_related.ensures.taken in
    stops _ _ _ _ _ _ _ refl after_write_related c.in_err-write_fix.ensures.taken _ p.0 p.1

pub returns-clause-taken : goal.returns-clause-taken
returns-clause-taken g c =
    let parts = finding_is c.args.is_later c.args.style c.args.fixes.now c.args.sources.now (finding_view c.args.finding.now) _ c.deref.ensures.value in
    let after_open_finding = goes_on _ _ _ _ _ _ _ parts (begins _ _) c.in_ok-open_finding.ensures.taken in
    let after_write_reason = goes_on _ _ _ _ _ _ _ refl after_open_finding c.in_ok-write_reason.ensures.taken in
    let after_put_all = goes_on _ _ _ _ _ _ _ refl after_write_reason c.in_ok-put_all.ensures.taken in
    let after_write_related = goes_on _ _ _ _ _ _ _ refl after_put_all c.in_ok-write_related.ensures.taken in
    last_call _ _ _ _ _ (goes_on _ _ _ _ _ _ _ refl after_write_related c.in_ok-write_fix.ensures.taken) _ c.put_all-2.ensures.taken

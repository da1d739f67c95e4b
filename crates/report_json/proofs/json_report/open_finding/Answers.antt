use Rattle.std.proofs.Common.{refl}
use Rattle.std.proofs.lemmas.Result.{err_from_is_err_and}
use Rattle.accepting.specs.Findings.{finding_view}
use Rattle.report_json.proofs.FindingPieces.{first_is}
use Rattle.format_parts.proofs.Steps.{begins, goes_on, stops, last_call}
use Rattle.report_json.proofs.json_report.open_finding.Goals as goal

pub returns-in_err-open_diagnostic-clause-taken : goal.returns-in_err-open_diagnostic-clause-taken
returns-in_err-open_diagnostic-clause-taken g c =
    let p = err_from_is_err_and c.from_residual.result c.from_residual.ensures.1 in
    let parts = first_is c.args.style c.args.sources.now c.args.is_later (finding_view c.args.finding.now) in
    stops _ _ _ _ _ _ _ parts (begins _ _) c.in_err-open_diagnostic.ensures.taken _ p.0 p.1

pub returns-in_err-write_reason-clause-taken : goal.returns-in_err-write_reason-clause-taken
returns-in_err-write_reason-clause-taken g c =
    let p = err_from_is_err_and c.from_residual-in_err-write_reason.result c.from_residual-in_err-write_reason.ensures.1 in
    let parts = first_is c.args.style c.args.sources.now c.args.is_later (finding_view c.args.finding.now) in
    let after_open_diagnostic = goes_on _ _ _ _ _ _ _ parts (begins _ _) c.in_ok-open_diagnostic.ensures.taken in
    stops _ _ _ _ _ _ _ refl after_open_diagnostic c.in_err-write_reason.ensures.taken _ p.0 p.1

pub returns-clause-taken : goal.returns-clause-taken
returns-clause-taken g c =
    let parts = first_is c.args.style c.args.sources.now c.args.is_later (finding_view c.args.finding.now) in
    let after_open_diagnostic = goes_on _ _ _ _ _ _ _ parts (begins _ _) c.in_ok-open_diagnostic.ensures.taken in
    last_call _ _ _ _ _ (goes_on _ _ _ _ _ _ _ refl after_open_diagnostic c.in_ok-write_reason.ensures.taken) _ c.write_function.ensures.taken

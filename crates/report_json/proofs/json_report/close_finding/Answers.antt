use Rattle.std.proofs.Common.{refl}
use Rattle.std.proofs.lemmas.Result.{err_from_is_err_and}
use Rattle.accepting.specs.Findings.{finding_view}
use Rattle.report_json.proofs.FindingPieces.{last_is}
use Rattle.format_parts.proofs.Steps.{begins, goes_on, stops, last_call}
use Rattle.report_json.proofs.json_report.close_finding.Goals as goal

pub returns-in_err-write_why-clause-taken : goal.returns-in_err-write_why-clause-taken
returns-in_err-write_why-clause-taken g c =
    let p = err_from_is_err_and c.from_residual.result c.from_residual.ensures.1 in
    let parts = last_is c.args.style c.args.sources.now c.args.fixes.now (finding_view c.args.finding.now) in
    stops _ _ _ _ _ _ _ parts (begins _ _) c.in_err-write_why.ensures.taken _ p.0 p.1

pub returns-in_err-write_lines-clause-taken : goal.returns-in_err-write_lines-clause-taken
returns-in_err-write_lines-clause-taken g c =
    let p = err_from_is_err_and c.from_residual-in_err-write_lines.result c.from_residual-in_err-write_lines.ensures.1 in
    let parts = last_is c.args.style c.args.sources.now c.args.fixes.now (finding_view c.args.finding.now) in
    let after_why = goes_on _ _ _ _ _ _ _ parts (begins _ _) c.in_ok-write_why.ensures.taken in
    stops _ _ _ _ _ _ _ refl after_why c.in_err-write_lines.ensures.taken _ p.0 p.1

pub returns-in_err-write_fix-clause-taken : goal.returns-in_err-write_fix-clause-taken
returns-in_err-write_fix-clause-taken g c =
    let p = err_from_is_err_and c.from_residual-in_err-write_fix.result c.from_residual-in_err-write_fix.ensures.1 in
    let parts = last_is c.args.style c.args.sources.now c.args.fixes.now (finding_view c.args.finding.now) in
    let after_why = goes_on _ _ _ _ _ _ _ parts (begins _ _) c.in_ok-write_why.ensures.taken in
    let after_lines = goes_on _ _ _ _ _ _ _ refl after_why c.in_ok-write_lines.ensures.taken in
    stops _ _ _ _ _ _ _ refl after_lines c.in_err-write_fix.ensures.taken _ p.0 p.1

pub returns-clause-taken : goal.returns-clause-taken
returns-clause-taken g c =
    let parts = last_is c.args.style c.args.sources.now c.args.fixes.now (finding_view c.args.finding.now) in
    let after_why = goes_on _ _ _ _ _ _ _ parts (begins _ _) c.in_ok-write_why.ensures.taken in
    let after_lines = goes_on _ _ _ _ _ _ _ refl after_why c.in_ok-write_lines.ensures.taken in
    last_call _ _ _ _ _ (goes_on _ _ _ _ _ _ _ refl after_lines c.in_ok-write_fix.ensures.taken) _ c.put_all.ensures.taken

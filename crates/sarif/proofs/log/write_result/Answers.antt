use Rattle.std.proofs.Common.{refl}
use Rattle.std.proofs.lemmas.Result.{err_from_is_err_and}
use Rattle.accepting.specs.Findings.{finding_view}
use Rattle.sarif.proofs.SarifPieces.{finding_is}
use Rattle.format_parts.proofs.Steps.{begins, goes_on, stops, last_call}
use Rattle.sarif.proofs.log.write_result.Goals as goal

pub returns-in_err-open_result-clause-taken : goal.returns-in_err-open_result-clause-taken
returns-in_err-open_result-clause-taken g c =
    let p = err_from_is_err_and c.from_residual.result c.from_residual.ensures.1 in
    let parts = finding_is c.args.is_later c.args.style c.args.fixes.now c.args.sources.now (finding_view c.args.finding.now) _ refl in
    stops _ _ _ _ _ _ _ parts (begins _ _) c.in_err-open_result.ensures.taken _ p.0 p.1

pub returns-in_err-write_fingerprint-clause-taken : goal.returns-in_err-write_fingerprint-clause-taken
returns-in_err-write_fingerprint-clause-taken g c =
    let p = err_from_is_err_and c.from_residual-in_err-write_fingerprint.result c.from_residual-in_err-write_fingerprint.ensures.1 in
    let parts = finding_is c.args.is_later c.args.style c.args.fixes.now c.args.sources.now (finding_view c.args.finding.now) _ refl in
    let after_open_result = goes_on _ _ _ _ _ _ _ parts (begins _ _) c.in_ok-open_result.ensures.taken in
    stops _ _ _ _ _ _ _ refl after_open_result c.in_err-write_fingerprint.ensures.taken _ p.0 p.1

pub returns-in_err-write_suppression-clause-taken : goal.returns-in_err-write_suppression-clause-taken
returns-in_err-write_suppression-clause-taken g c =
    let p = err_from_is_err_and c.from_residual-in_err-write_suppression.result c.from_residual-in_err-write_suppression.ensures.1 in
    let parts = finding_is c.args.is_later c.args.style c.args.fixes.now c.args.sources.now (finding_view c.args.finding.now) _ refl in
    let after_open_result = goes_on _ _ _ _ _ _ _ parts (begins _ _) c.in_ok-open_result.ensures.taken in
    let after_print = goes_on _ _ _ _ _ _ _ refl after_open_result c.in_ok-write_fingerprint.ensures.taken in
    stops _ _ _ _ _ _ _ refl after_print c.in_err-write_suppression.ensures.taken _ p.0 p.1

pub returns-in_err-write_fixes-clause-taken : goal.returns-in_err-write_fixes-clause-taken
returns-in_err-write_fixes-clause-taken g c =
    let p = err_from_is_err_and c.from_residual-in_err-write_fixes.result c.from_residual-in_err-write_fixes.ensures.1 in
    let parts = finding_is c.args.is_later c.args.style c.args.fixes.now c.args.sources.now (finding_view c.args.finding.now) _ refl in
    let after_open_result = goes_on _ _ _ _ _ _ _ parts (begins _ _) c.in_ok-open_result.ensures.taken in
    let after_print = goes_on _ _ _ _ _ _ _ refl after_open_result c.in_ok-write_fingerprint.ensures.taken in
    let after_write_suppression = goes_on _ _ _ _ _ _ _ refl after_print c.in_ok-write_suppression.ensures.taken in
    stops _ _ _ _ _ _ _ refl after_write_suppression c.in_err-write_fixes.ensures.taken _ p.0 p.1

pub returns-clause-taken : goal.returns-clause-taken
returns-clause-taken g c =
    let parts = finding_is c.args.is_later c.args.style c.args.fixes.now c.args.sources.now (finding_view c.args.finding.now) _ c.notes_told.ensures in
    let after_open_result = goes_on _ _ _ _ _ _ _ parts (begins _ _) c.in_ok-open_result.ensures.taken in
    let after_print = goes_on _ _ _ _ _ _ _ refl after_open_result c.in_ok-write_fingerprint.ensures.taken in
    let after_write_suppression = goes_on _ _ _ _ _ _ _ refl after_print c.in_ok-write_suppression.ensures.taken in
    last_call _ _ _ _ _ (goes_on _ _ _ _ _ _ _ refl after_write_suppression c.in_ok-write_fixes.ensures.taken) _ c.close_result.ensures.taken

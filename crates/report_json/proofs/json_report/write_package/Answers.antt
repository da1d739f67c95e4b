use Rattle.std.proofs.Common.{refl}
use Rattle.std.proofs.lemmas.Result.{err_from_is_err_and}
use Rattle.report_json.proofs.FindingPieces.{package_is}
use Rattle.format_parts.proofs.Steps.{begins, goes_on, stops, last_call}
use Rattle.report_json.proofs.json_report.write_package.Goals as goal

pub returns-in_err-put_each-clause-taken : goal.returns-in_err-put_each-clause-taken
returns-in_err-put_each-clause-taken g c =
    let p = err_from_is_err_and c.from_residual.result c.from_residual.ensures.1 in
    let parts = package_is c.args.is_later c.args.style c.args.fixes.now c.args.count c.args.found.now _ _ _ _ _ c.comma.ensures refl refl refl refl in
    stops _ _ _ _ _ _ _ parts (begins _ _) c.in_err-put_each.ensures.taken _ p.0 p.1

pub returns-in_err-write_verdict-clause-taken : goal.returns-in_err-write_verdict-clause-taken
returns-in_err-write_verdict-clause-taken g c =
    let p = err_from_is_err_and c.from_residual-in_err-write_verdict.result c.from_residual-in_err-write_verdict.ensures.1 in
    let parts = package_is c.args.is_later c.args.style c.args.fixes.now c.args.count c.args.found.now _ _ _ _ _ c.comma.ensures c.verdict_of.ensures c.deref.ensures.value c.deref-2.ensures.value refl in
    let after_put_each = goes_on _ _ _ _ _ _ _ parts (begins _ _) c.in_ok-put_each.ensures.taken in
    stops _ _ _ _ _ _ _ refl after_put_each c.in_err-write_verdict.ensures.taken _ p.0 p.1

pub returns-in_err-put_all-clause-taken : goal.returns-in_err-put_all-clause-taken
returns-in_err-put_all-clause-taken g c =
    let p = err_from_is_err_and c.from_residual-in_err-put_all.result c.from_residual-in_err-put_all.ensures.1 in
    let parts = package_is c.args.is_later c.args.style c.args.fixes.now c.args.count c.args.found.now _ _ _ _ _ c.comma.ensures c.verdict_of.ensures c.deref.ensures.value c.deref-2.ensures.value refl in
    let after_put_each = goes_on _ _ _ _ _ _ _ parts (begins _ _) c.in_ok-put_each.ensures.taken in
    let after_write_verdict = goes_on _ _ _ _ _ _ _ refl after_put_each c.in_ok-write_verdict.ensures.taken in
    stops _ _ _ _ _ _ _ refl after_write_verdict c.in_err-put_all.ensures.taken _ p.0 p.1

pub returns-in_err-write_findings-clause-taken : goal.returns-in_err-write_findings-clause-taken
returns-in_err-write_findings-clause-taken g c =
    let p = err_from_is_err_and c.from_residual-in_err-write_findings.result c.from_residual-in_err-write_findings.ensures.1 in
    let parts = package_is c.args.is_later c.args.style c.args.fixes.now c.args.count c.args.found.now _ _ _ _ _ c.comma.ensures c.verdict_of.ensures c.deref.ensures.value c.deref-2.ensures.value c.deref-3.ensures.value in
    let after_put_each = goes_on _ _ _ _ _ _ _ parts (begins _ _) c.in_ok-put_each.ensures.taken in
    let after_write_verdict = goes_on _ _ _ _ _ _ _ refl after_put_each c.in_ok-write_verdict.ensures.taken in
    let after_put_all = goes_on _ _ _ _ _ _ _ refl after_write_verdict c.in_ok-put_all.ensures.taken in
    stops _ _ _ _ _ _ _ refl after_put_all c.in_err-write_findings.ensures.taken _ p.0 p.1

pub returns-clause-taken : goal.returns-clause-taken
returns-clause-taken g c =
    let parts = package_is c.args.is_later c.args.style c.args.fixes.now c.args.count c.args.found.now _ _ _ _ _ c.comma.ensures c.verdict_of.ensures c.deref.ensures.value c.deref-2.ensures.value c.deref-3.ensures.value in
    let after_put_each = goes_on _ _ _ _ _ _ _ parts (begins _ _) c.in_ok-put_each.ensures.taken in
    let after_write_verdict = goes_on _ _ _ _ _ _ _ refl after_put_each c.in_ok-write_verdict.ensures.taken in
    let after_put_all = goes_on _ _ _ _ _ _ _ refl after_write_verdict c.in_ok-put_all.ensures.taken in
    last_call _ _ _ _ _ (goes_on _ _ _ _ _ _ _ refl after_put_all c.in_ok-write_findings.ensures.taken) _ c.put_all-2.ensures.taken

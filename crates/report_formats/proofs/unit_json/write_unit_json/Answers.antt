use Rattle.std.proofs.Common.{refl}
use Rattle.std.proofs.lemmas.Result.{err_from_is_err_and}
use Rattle.report_formats.proofs.UnitFindings.{unit_is}
use Rattle.format_parts.proofs.Steps.{begins, goes_on, stops, last_call}
use Rattle.report_formats.proofs.unit_json.write_unit_json.Goals as goal

pub returns-in_err-put_each-clause-taken : goal.returns-in_err-put_each-clause-taken
returns-in_err-put_each-clause-taken g c =
    let p = err_from_is_err_and c.from_residual.result c.from_residual.ensures.1 in
    let parts = unit_is c.args.style c.args.fixes.now c.args.name.now c.args.found.now _ refl in
    stops _ _ _ _ _ _ _ parts (begins _ _) c.in_err-put_each.ensures.taken _ p.0 p.1

pub returns-in_err-write_findings-clause-taken : goal.returns-in_err-write_findings-clause-taken
returns-in_err-write_findings-clause-taken g c =
    let p = err_from_is_err_and c.from_residual-in_err-write_findings.result c.from_residual-in_err-write_findings.ensures.1 in
    let parts = unit_is c.args.style c.args.fixes.now c.args.name.now c.args.found.now _ c.deref.ensures.value in
    let after_put_each = goes_on _ _ _ _ _ _ _ parts (begins _ _) c.in_ok-put_each.ensures.taken in
    stops _ _ _ _ _ _ _ refl after_put_each c.in_err-write_findings.ensures.taken _ p.0 p.1

pub returns-clause-taken : goal.returns-clause-taken
returns-clause-taken g c =
    let parts = unit_is c.args.style c.args.fixes.now c.args.name.now c.args.found.now _ c.deref.ensures.value in
    let after_put_each = goes_on _ _ _ _ _ _ _ parts (begins _ _) c.in_ok-put_each.ensures.taken in
    last_call _ _ _ _ _ (goes_on _ _ _ _ _ _ _ refl after_put_each c.in_ok-write_findings.ensures.taken) _ c.put_all.ensures.taken

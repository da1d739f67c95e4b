use Rattle.std.proofs.Common.{refl}
use Rattle.std.proofs.lemmas.Result.{err_from_is_err_and}
use Rattle.report.specs.Entries.{texts_of}
use Rattle.report_json.proofs.JsonPieces.{yes_is}
use Rattle.format_parts.proofs.Steps.{begins, goes_on, stops, last_call}
use Rattle.report_json.proofs.json_report.write_yes.Goals as goal

pub returns-in_err-put_all-clause-taken : goal.returns-in_err-put_all-clause-taken
returns-in_err-put_all-clause-taken g c =
    let p = err_from_is_err_and c.from_residual.result c.from_residual.ensures.1 in
    let parts = yes_is (texts_of c.args.keeping.now) in
    stops _ _ _ _ _ _ _ parts (begins _ _) c.in_err-put_all.ensures.taken _ p.0 p.1

pub returns-in_err-write_names-clause-taken : goal.returns-in_err-write_names-clause-taken
returns-in_err-write_names-clause-taken g c =
    let p = err_from_is_err_and c.from_residual-in_err-write_names.result c.from_residual-in_err-write_names.ensures.1 in
    let parts = yes_is (texts_of c.args.keeping.now) in
    let after_put_all = goes_on _ _ _ _ _ _ _ parts (begins _ _) c.in_ok-put_all.ensures.taken in
    stops _ _ _ _ _ _ _ refl after_put_all c.in_err-write_names.ensures.taken _ p.0 p.1

pub returns-clause-taken : goal.returns-clause-taken
returns-clause-taken g c =
    let parts = yes_is (texts_of c.args.keeping.now) in
    let after_put_all = goes_on _ _ _ _ _ _ _ parts (begins _ _) c.in_ok-put_all.ensures.taken in
    last_call _ _ _ _ _ (goes_on _ _ _ _ _ _ _ refl after_put_all c.in_ok-write_names.ensures.taken) _ c.put_all-2.ensures.taken

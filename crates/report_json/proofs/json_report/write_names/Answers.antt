use Rattle.std.proofs.Common.{refl, ◌∙◌}
use Rattle.std.proofs.lemmas.Result.{err_from_is_err_and}
use Rattle.report_json.proofs.JsonPieces.{name_value, names_are}
use Rattle.format_parts.proofs.Steps.{begins_as, goes_on, ends, stops}
use Rattle.format_parts.proofs.Values.{next_listed, none_listed}
use Rattle.report_json.proofs.json_report.write_names.Goals as goal

pub loop-name-init : goal.loop-name-init
loop-name-init g c = (begins_as _ _ _ (names_are c.args.names.now), refl)

pub loop-name-preserved : goal.loop-name-preserved
loop-name-preserved g c =
    let next = next_listed name_value c.loop-name.is_later c.args.names.now c.loop-name.name-index _ c.loop-name-test.true in
    (goes_on _ _ _ _ _ _ _ next c.loop-name.invariant.0 c.in_ok-write_name.ensures.taken, c.in_ok-write_name.ensures.refusals ∙ c.loop-name.invariant.1)

pub returns-in_err-write_name-clause-taken : goal.returns-in_err-write_name-clause-taken
returns-in_err-write_name-clause-taken g c =
    let p = err_from_is_err_and c.from_residual.result c.from_residual.ensures.1 in
    let next = next_listed name_value c.loop-name.is_later c.args.names.now c.loop-name.name-index _ c.loop-name-test.true in
    stops _ _ _ _ _ _ _ next c.loop-name.invariant.0 c.in_err-write_name.ensures.taken _ p.0 p.1

pub returns-clause-taken : goal.returns-clause-taken
returns-clause-taken g c = ends _ _ _ _ (none_listed name_value _ c.args.names.now c.loop-name.name-index c.loop-name-test.false) c.loop-name.invariant.0

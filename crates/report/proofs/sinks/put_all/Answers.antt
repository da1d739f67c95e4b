use Rattle.std.proofs.Common.{◌<◌, ◌∙◌, length, rules}
use Rattle.std.proofs.lemmas.Result.{err_from_is_err_and}
use Rattle.report.proofs.Fronts.{stops_before}
use Rattle.report.proofs.sinks.put_all.Goals as goal

pub returns-in_err-count-clause-taken : goal.returns-in_err-count-clause-taken
returns-in_err-count-clause-taken g c =
    let p = err_from_is_err_and c.from_residual.result c.from_residual.ensures.1 in
    let kept = c.loop-rest.invariant.0 in
    let more : 0 < length c.loop-rest.rest.now = search rules in
    stops_before _ _ _ kept.0 c.loop-rest.rest.now kept.1 more (c.in_err-count.ensures.fails ∙ kept.2) _ p.0 p.1

use Rattle.std.proofs.Common.{◌++◌, ap, flat_map, ◌∙◌}
use Rattle.std.proofs.lemmas.List.{take_all}
use Rattle.std.proofs.lemmas.Result.{err_from_is_err_and}
use Rattle.accepting.specs.Findings.{found_view}
use Rattle.report.proofs.Fronts.{fails_at_item}
use Rattle.told_reports.specs.UnitTexts.{shape_text}
use Rattle.told_reports.proofs.unit.write_units.Goals as goal

pub returns-in_err-write_unit-clause-taken : goal.returns-in_err-write_unit-clause-taken
returns-in_err-write_unit-clause-taken g c =
    let p = err_from_is_err_and c.from_residual.result c.from_residual.ensures.1 in
    fails_at_item (λ p. shape_text c.args.shape c.args.fixes.now c.args.style (found_view p)) c.args.packages.now c.loop-unit.unit-index c.unit-item.result c.loop-unit-test.true c.unit-item.is _ _ _ c.loop-unit.invariant.0 c.in_err-write_unit.ensures.taken _ p.0 p.1

pub returns-clause-taken : goal.returns-clause-taken
returns-clause-taken g c =
    c.loop-unit.invariant.0
    ∙ ap (λ t. g.S.Sink.taken c.args.sink.now ++ flat_map (λ p. shape_text c.args.shape c.args.fixes.now c.args.style (found_view p)) t)
    (take_all c.loop-unit.unit-index c.args.packages.now c.loop-unit-test.false)

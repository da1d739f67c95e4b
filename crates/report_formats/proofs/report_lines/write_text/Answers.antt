use Rattle.std.proofs.Common.{◌++◌, ap, flat_map, sym, ◌∙◌}
use Rattle.std.proofs.lemmas.List.{take_all}
use Rattle.std.proofs.lemmas.List.Folds.{flat_map-map}
use Rattle.std.proofs.lemmas.Result.{err_from_is_err_and}
use Rattle.accepting.specs.Findings.{found_view}
use Rattle.report.proofs.Fronts.{fails_at_item}
use Rattle.report_formats.specs.ReportLines.{package_text}
use Rattle.report_formats.proofs.report_lines.write_text.Goals as goal

pub returns-in_err-write_package-clause-taken : goal.returns-in_err-write_package-clause-taken
returns-in_err-write_package-clause-taken g c =
    let p = err_from_is_err_and c.from_residual.result c.from_residual.ensures.1 in
    rw (flat_map-map (package_text c.args.style) found_view c.args.packages.now)
    (fails_at_item (λ p. package_text c.args.style (found_view p)) c.args.packages.now c.loop-found.found-index c.found-item.result c.loop-found-test.true c.found-item.is _ _ _ c.loop-found.invariant.0 c.in_err-write_package.ensures.taken _ p.0 p.1)

pub returns-clause-taken : goal.returns-clause-taken
returns-clause-taken g c =
    let packages = c.args.packages.now in
    c.loop-found.invariant.0
    ∙ ap (λ t. g.S.Sink.taken c.args.sink.now ++ t)
    (ap (flat_map (λ p. package_text c.args.style (found_view p))) (take_all c.loop-found.found-index packages c.loop-found-test.false)
    ∙ sym (flat_map-map (package_text c.args.style) found_view packages))

use Rattle.std.proofs.Common.{refl, ◌∙◌}
use Rattle.std.proofs.lemmas.Result.{err_from_is_err_and}
use Rattle.sarif.proofs.SarifPieces.{results_of, next_results}
use Rattle.format_parts.proofs.Steps.{begins, goes_on, ends, stops}
use Rattle.format_parts.proofs.Values.{none_several}
use Rattle.sarif.proofs.log.write_results.Goals as goal

pub loop-package-init : goal.loop-package-init
loop-package-init g c = (begins _ _, refl)

pub loop-package-preserved : goal.loop-package-preserved
loop-package-preserved g c =
    let next = next_results c.args.style c.args.fixes.now c.loop-package.is_later c.args.packages.now c.loop-package.package-index c.package-item.result c.loop-package-test.true c.package-item.is _ c.deref.ensures.value _ c.comes_later-is_later.ensures in
    (goes_on _ _ _ _ _ _ _ next c.loop-package.invariant.0 c.in_ok-write_package_results.ensures.taken, c.in_ok-write_package_results.ensures.refusals ∙ c.loop-package.invariant.1)

pub returns-in_err-write_package_results-clause-taken : goal.returns-in_err-write_package_results-clause-taken
returns-in_err-write_package_results-clause-taken g c =
    let p = err_from_is_err_and c.from_residual.result c.from_residual.ensures.1 in
    let next = next_results c.args.style c.args.fixes.now c.loop-package.is_later c.args.packages.now c.loop-package.package-index c.package-item.result c.loop-package-test.true c.package-item.is _ c.deref.ensures.value _ refl in
    stops _ _ _ _ _ _ _ next c.loop-package.invariant.0 c.in_err-write_package_results.ensures.taken _ p.0 p.1

pub returns-clause-taken : goal.returns-clause-taken
returns-clause-taken g c = ends _ _ _ _ (none_several (results_of c.args.style c.args.fixes.now) _ c.args.packages.now c.loop-package.package-index c.loop-package-test.false) c.loop-package.invariant.0

use Rattle.std.proofs.Common.{refl, ◌∙◌}
use Rattle.std.proofs.lemmas.Result.{err_from_is_err_and}
use Rattle.report_json.proofs.FindingPieces.{next_package, no_package}
use Rattle.format_parts.proofs.Steps.{begins, goes_on, ends, stops}
use Rattle.report_json.proofs.json_report.write_packages.Goals as goal

pub loop-package-init : goal.loop-package-init
loop-package-init g c = (begins _ _, refl)

pub loop-package-preserved : goal.loop-package-preserved
loop-package-preserved g c =
    let l = c.loop-package in
    let next = next_package c.args.style c.args.fixes.now l.is_later l.count _ c.args.packages.now l.package-index c.package-item.result _ c.loop-package-test.true c.package-item.is c.deref.ensures.value c.count_from-count.ensures in
    (goes_on _ _ _ _ _ _ _ next l.invariant.0 c.in_ok-write_package.ensures.taken, c.in_ok-write_package.ensures.refusals ∙ l.invariant.1)

pub returns-in_err-write_package-clause-taken : goal.returns-in_err-write_package-clause-taken
returns-in_err-write_package-clause-taken g c =
    let l = c.loop-package in
    let p = err_from_is_err_and c.from_residual.result c.from_residual.ensures.1 in
    let next = next_package c.args.style c.args.fixes.now l.is_later l.count _ c.args.packages.now l.package-index c.package-item.result _ c.loop-package-test.true c.package-item.is refl refl in
    stops _ _ _ _ _ _ _ next l.invariant.0 c.in_err-write_package.ensures.taken _ p.0 p.1

pub returns-clause-taken : goal.returns-clause-taken
returns-clause-taken g c =
    ends _ _ _ _ (no_package c.args.style c.args.fixes.now _ _ c.args.packages.now c.loop-package.package-index c.loop-package-test.false) c.loop-package.invariant.0

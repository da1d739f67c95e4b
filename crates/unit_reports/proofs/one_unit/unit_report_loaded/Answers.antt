use Rattle.std.proofs.Common.{◌≡◌, [], ◌∷◌, IfErr, IfOk, subst}
use Rattle.declared_json.specs.DeclaredPackages.{packages_of}
use Rattle.unit_reports.specs.Units.{IsUnitFault, IsUnitReport}
use Rattle.whole_packages.specs.declared.loaded_package.LoadedPackage.{LoadedPackage as KeptPackage}
use Rattle.unit_reports.proofs.one_unit.unit_report_loaded.Goals as goal

pub returns-clause-report : goal.returns-clause-report
returns-clause-report g c =
    let outside = packages_of c.args.loaded.outside in
    let told = c.args.told.now in
    subst
    (λ packages. IfOk c.only_report-report.result
    (λ report. (kept : KeptPackage) → packages ≡ kept ∷ [] → IsUnitReport c.args.form outside told kept report))
    c.deref.ensures.value c.only_report-report.ensures.report

pub returns-clause-fault : goal.returns-clause-fault
returns-clause-fault g c =
    let outside = packages_of c.args.loaded.outside in
    let told = c.args.told.now in
    subst
    (λ packages. IfErr c.only_report-report.result
    (λ fault. (kept : KeptPackage) → packages ≡ kept ∷ [] → IsUnitFault outside told kept fault))
    c.deref.ensures.value c.only_report-report.ensures.fault

use Rattle.std.proofs.Common.{IfOk, List, subst}
use Rattle.all_packages.specs.Reports.{AreAllCertified, AreReportsBy}
use Rattle.declared_tables.specs.DeclaredTables.{declared_tables}
use Rattle.meaning_reports.specs.Loaded.{LoadedPackage}
use Rattle.declared_json.specs.DeclaredPackages.{packages_of}
use Rattle.whole_packages.specs.LoadedViews.{HaveDistinctPaths, TellPackages}
use Rattle.package_workers.proofs.checking.check_by_workers.Goals as goal

pub returns-clause-reports : goal.returns-clause-reports
returns-clause-reports g c =
    let declared = declared_tables (packages_of c.args.outside.now) in
    subst (λ kept. IfOk c.check_named.result (λ found. (ps : List LoadedPackage) → TellPackages ps kept
    → HaveDistinctPaths ps → AreReportsBy (g.R.FileRules.rules c.args.rules.now declared) ps kept found.items))
    c.in_ok-given.ensures.packages c.check_named.ensures.reports

pub returns-clause-certified : goal.returns-clause-certified
returns-clause-certified g c =
    let declared = declared_tables (packages_of c.args.outside.now) in
    subst (λ kept. IfOk c.check_named.result (λ found. (ps : List LoadedPackage) → TellPackages ps kept
    → HaveDistinctPaths ps → AreAllCertified (g.R.FileRules.rules c.args.rules.now declared)
    (g.R.FileRules.certificates c.args.rules.now) ps found.items))
    c.in_ok-given.ensures.packages c.check_named.ensures.certified

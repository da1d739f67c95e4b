use Rattle.std.proofs.Common.{length, sym, subst}
use Rattle.std.proofs.lemmas.Result.{IfOk-weaker}
use Rattle.declared_tables.specs.DeclaredTables.{declared_tables}
use Rattle.declared_json.specs.DeclaredPackages.{packages_of}
use Rattle.all_packages.specs.Progress.{slots_in}
use Rattle.all_packages.specs.Reports.{AreReportsBy}
use Rattle.all_packages.proofs.AllReports.{none_right}
use Rattle.all_packages.proofs.packages.check_by_rules.Goals as goal

pub returns-clause-reports : goal.returns-clause-reports
returns-clause-reports g c =
    IfOk-weaker c.judge_left.result _ _
    (λ found are ps tell distinct.
    let declared = declared_tables (packages_of c.args.outside.now) in
    let rules = g.R.FileRules.rules c.args.rules.now declared in
    let rule = g.R.FileRules.certificates c.args.rules.now in
    let given = c.in_ok-given.ensures.given ps tell distinct in
    let none = none_right rules rule ps c.in_ok-given.given.packages.now (slots_in c.in_ok-none.none)
    (length c.args.packages.now) c.in_ok-none.ensures (sym tell.are_as_many) in
    subst (λ ks. AreReportsBy rules ps ks found.items) c.in_ok-given.ensures.packages
    (are declared ps given distinct none))
    c.judge_left.ensures.reports

pub returns-clause-certified : goal.returns-clause-certified
returns-clause-certified g c =
    IfOk-weaker c.judge_left.result _ _
    (λ found are ps tell distinct.
    let declared = declared_tables (packages_of c.args.outside.now) in
    let rules = g.R.FileRules.rules c.args.rules.now declared in
    let rule = g.R.FileRules.certificates c.args.rules.now in
    let given = c.in_ok-given.ensures.given ps tell distinct in
    let none = none_right rules rule ps c.in_ok-given.given.packages.now (slots_in c.in_ok-none.none)
    (length c.args.packages.now) c.in_ok-none.ensures (sym tell.are_as_many) in
    are declared ps given distinct none)
    c.judge_left.ensures.certified

use Rattle.all_packages.specs.Progress.{slots_in}
use Rattle.all_packages.proofs.AllReports.{given_certified, given_reports}
use Rattle.all_packages.proofs.packages.judge_left.Goals as goal

pub returns-clause-reports : goal.returns-clause-reports
returns-clause-reports g c = λ declared ps given distinct right.
    given_reports (g.R.FileRules.rules c.args.by.now.rules.now declared) declared ps c.args.given.now (slots_in c.in_ok-all.all)
    (c.are_determined.ensures.declared declared) (c.are_determined.ensures.flags declared) given distinct
    (c.in_ok-all.ensures declared ps given distinct right) c.in_ok-into_judged.field-0.items c.in_ok-into_judged.ensures

pub returns-clause-certified : goal.returns-clause-certified
returns-clause-certified g c = λ declared ps given distinct right.
    given_certified (g.R.FileRules.rules c.args.by.now.rules.now declared) declared ps c.args.given.now (slots_in c.in_ok-all.all)
    (c.are_determined.ensures.declared declared) (c.are_determined.ensures.flags declared) given distinct
    (c.in_ok-all.ensures declared ps given distinct right) c.in_ok-into_judged.field-0.items c.in_ok-into_judged.ensures

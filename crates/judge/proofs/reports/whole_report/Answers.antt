use Rattle.std.proofs.lemmas.Result.{IfOk-weaker}
use Rattle.judge.proofs.reports.whole_report.Goals as goal

pub returns : goal.returns
returns c =
    IfOk-weaker c.told.result _ _
    (λ report told. record {
      said = c.in_ok-judged.judged.items;
      are_reports = c.in_ok-judged.ensures.reports;
      told = told;
    })
    c.told.ensures

use Rattle.judge.proofs.reports.whole_report_by_workers.Goals as goal

pub returns-clause-report : goal.returns-clause-report
returns-clause-report g c = record {
  said = c.in_ok-judged.judged.items;
  are_reports = c.in_ok-judged.ensures.reports;
  told = c.in_ok-report.ensures;
}

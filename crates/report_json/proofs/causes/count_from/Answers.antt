use Rattle.std.proofs.Common.{◌∙◌, sym}
use Rattle.report_json.proofs.BindingCounts.{count_on, counted}
use Rattle.report_json.proofs.causes.count_from.Goals as goal

pub findings-preserved : goal.findings-preserved
findings-preserved c =
    let l = c.findings in
    count_on c.args.style l.count c.args.findings.now l.index c.index-findings-index.result c.findings-test.true c.index-findings-index.is _ _ c.split_at.ensures.front c.count_after-count.ensures
    ∙ l.invariant

pub returns : goal.returns
returns c =
    let l = c.findings in
    sym (counted c.args.style l.count c.args.findings.now l.index c.findings-test.false) ∙ l.invariant

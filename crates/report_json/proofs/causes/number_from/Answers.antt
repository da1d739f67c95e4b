use Rattle.std.proofs.Common.{◌∙◌, sym}
use Rattle.accepting.specs.Findings.{finding_view}
use Rattle.report_json.proofs.BindingCounts.{number_here, number_last, number_on}
use Rattle.report_json.proofs.causes.number_from.Goals as goal

pub returns-then-is_same_binding : goal.returns-then-is_same_binding
returns-then-is_same_binding c =
    let l = c.findings in
    c.saturating_add.ensures
    ∙ sym (number_here c.args.style l.count c.args.findings.now l.index c.index-findings-index.result c.findings-test.true c.index-findings-index.is (finding_view c.args.finding.now) (sym c.is_same_binding.ensures ∙ c.if-is_same_binding.true))
    ∙ l.invariant

pub findings-preserved : goal.findings-preserved
findings-preserved c =
    let l = c.findings in
    number_on c.args.style l.count c.args.findings.now l.index c.index-findings-index.result c.findings-test.true c.index-findings-index.is (finding_view c.args.finding.now) _ _ c.split_at.ensures.front (sym c.is_same_binding.ensures ∙ c.if-is_same_binding.false) c.count_after-count.ensures
    ∙ l.invariant

pub returns : goal.returns
returns c =
    let l = c.findings in
    c.saturating_add-2.ensures
    ∙ sym (number_last c.args.style l.count c.args.findings.now l.index c.findings-test.false (finding_view c.args.finding.now))
    ∙ l.invariant

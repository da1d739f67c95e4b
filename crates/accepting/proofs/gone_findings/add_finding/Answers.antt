use Rattle.std.proofs.Common.{sym, ap, ◌∙◌}
use Rattle.accepting.specs.Findings.{finding_view}
use Rattle.accepting.specs.KeptKeys.{left_after, one_more}
use Rattle.accepting.proofs.GoneFindings.{counted, not_counted}
use Rattle.accepting.proofs.gone_findings.add_finding.Goals as goal

pub returns-then-not-is_of_run : goal.returns-then-not-is_of_run
returns-then-not-is_of_run c = λ run so.
    not_counted c.args.sources.now run (finding_view c.args.finding.now) c.args.counts.now
    (sym c.is_of_run.ensures ∙ c.if-not-is_of_run.true) so

pub returns : goal.returns
returns c = λ run so.
    let old = c.args.counts.now in
    counted c.args.sources.now run (finding_view c.args.finding.now) old c.add.new.self
    (sym c.is_of_run.ensures ∙ c.if-not-is_of_run.false)
    (λ k. c.in_ok-add.ensures k ∙ ap (λ q. left_after one_more old q k) c.key_of.ensures) so

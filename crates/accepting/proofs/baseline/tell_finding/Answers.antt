use Rattle.std.proofs.Common.{sym, ap, ◌∙◌}
use Rattle.accepting.specs.Findings.{finding_view}
use Rattle.accepting.specs.KeptKeys.{left_of, left_after, one_less}
use Rattle.std.specs.Prelude.{nat_lt}
use Rattle.accepting.proofs.ToldByBaseline.{not_open, open_told}
use Rattle.accepting.proofs.baseline.tell_finding.Goals as goal

pub returns-then-not-is_open : goal.returns-then-not-is_open
returns-then-not-is_open c = λ known before fits so.
    not_open known before c.args.sources.now (finding_view c.args.finding) c.args.counts.now
    (sym c.is_open.ensures ∙ c.if-not-is_open.true) so

pub returns : goal.returns
returns c = λ known before fits so.
    let old = c.args.counts.now in
    open_told known before c.args.sources.now (finding_view c.args.finding) (finding_view c.accepted_if.result)
    c.in_ok-stands.stands old c.take.new.self (sym c.is_open.ensures ∙ c.if-not-is_open.false)
    (c.in_ok-stands.ensures.was ∙ ap (λ q. nat_lt 0 (left_of old q)) c.key_of.ensures)
    (λ k. c.in_ok-stands.ensures.left k ∙ ap (λ q. left_after one_less old q k) c.key_of.ensures)
    c.accepted_if.ensures fits so

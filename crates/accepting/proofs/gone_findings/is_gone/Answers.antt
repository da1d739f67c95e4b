use Rattle.std.proofs.Common.{false, ◌&&◌, sym, ap, ◌∙◌}
use Rattle.std.specs.Prelude.{nat_lt, not}
use Rattle.baseline_json.specs.BaselineValues.{entry_of}
use Rattle.accepting.specs.Gone.{was_open}
use Rattle.accepting.specs.KeptKeys.{left_of, left_after, one_less}
use Rattle.accepting.proofs.GoneFindings.{judged}
use Rattle.accepting.proofs.gone_findings.is_gone.Goals as goal

pub returns-then-is_met : goal.returns-then-is_met
returns-then-is_met c = λ run before fits so.
    let e = entry_of c.args.finding.now in
    let old = c.args.counts.now in
    judged run before e c.in_ok-is_met.is_met false old c.take.new.self fits
    (c.in_ok-is_met.ensures.was ∙ ap (λ q. nat_lt 0 (left_of old q)) c.key_in.ensures)
    (λ k. c.in_ok-is_met.ensures.left k ∙ ap (λ q. left_after one_less old q k) c.key_in.ensures)
    (sym (ap (λ t. not t && was_open e) c.if-is_met.true)) so

pub returns : goal.returns
returns c = λ run before fits so.
    let e = entry_of c.args.finding.now in
    let old = c.args.counts.now in
    judged run before e c.in_ok-is_met.is_met c.was_open.result old c.take.new.self fits
    (c.in_ok-is_met.ensures.was ∙ ap (λ q. nat_lt 0 (left_of old q)) c.key_in.ensures)
    (λ k. c.in_ok-is_met.ensures.left k ∙ ap (λ q. left_after one_less old q k) c.key_in.ensures)
    (c.was_open.ensures ∙ sym (ap (λ t. not t && was_open e) c.if-is_met.false)) so

use Rattle.std.proofs.Common.{refl, ◌∙◌}
use Rattle.std.proofs.lemmas.Result.{err_from_is_err_and}
use Rattle.sarif.specs.SarifText.{rule_value}
use Rattle.format_parts.proofs.Steps.{begins, goes_on, ends, stops}
use Rattle.format_parts.proofs.Values.{next_listed, none_listed}
use Rattle.sarif.proofs.sarif_rules.write_rules.Goals as goal

pub loop-code-init : goal.loop-code-init
loop-code-init g c = (begins _ _, refl)

pub loop-code-preserved : goal.loop-code-preserved
loop-code-preserved g c =
    let next = next_listed (rule_value c.args.wording) c.loop-code.is_later c.args.codes.now c.loop-code.code-index _ c.loop-code-test.true in
    (goes_on _ _ _ _ _ _ _ next c.loop-code.invariant.0 c.in_ok-write_rule.ensures.taken, c.in_ok-write_rule.ensures.refusals ∙ c.loop-code.invariant.1)

pub returns-in_err-write_rule-clause-taken : goal.returns-in_err-write_rule-clause-taken
returns-in_err-write_rule-clause-taken g c =
    let p = err_from_is_err_and c.from_residual.result c.from_residual.ensures.1 in
    let next = next_listed (rule_value c.args.wording) c.loop-code.is_later c.args.codes.now c.loop-code.code-index _ c.loop-code-test.true in
    stops _ _ _ _ _ _ _ next c.loop-code.invariant.0 c.in_err-write_rule.ensures.taken _ p.0 p.1

pub returns-clause-taken : goal.returns-clause-taken
returns-clause-taken g c = ends _ _ _ _ (none_listed (rule_value c.args.wording) _ c.args.codes.now c.loop-code.code-index c.loop-code-test.false) c.loop-code.invariant.0

use Rattle.std.proofs.Common.{◌∙◌, ap, arith, sym}
use Rattle.function_spans.specs.declared.bodies.Scan.{Scan}
use Rattle.function_spans.specs.Bodies.{after}
use Rattle.function_spans.specs.Steps.{end_with, ends_step, in_literal_after}
use Rattle.function_spans.proofs.BodySizes.{depth_grows}
use Rattle.function_spans.proofs.Statements.{statement_ends, statement_on}
use Rattle.function_spans.proofs.steps.statement_end.Goals as goal

pub returns-then-ends_step : goal.returns-then-ends_step
returns-then-ends_step c =
    let b = c.bytes in
    let header = c.begins_header-is_header.result in
    sym (statement_ends header b.scan b.in_literal b.before c.args.text.now b.at b.end c.bytes-test.true
    (ap (ends_step header b.scan b.in_literal b.before) (sym c.split_at.ensures.back) ∙ sym c.ends_step.ensures ∙ c.if-ends_step.true))
    ∙ b.invariant.1

pub bytes-preserved : goal.bytes-preserved
bytes-preserved c =
    let b = c.bytes in
    let header = c.begins_header-is_header.result in
    let rest = c.split_at.result.1.now in (
      omega (arith, ap (λ (s : Scan). s.depth) c.after-scan.ensures, depth_grows b.scan rest, b.invariant.0),
      statement_on header b.scan b.in_literal b.before c.args.text.now b.at b.end c.after-scan.result _ _ c.bytes-test.true
          (ap (ends_step header b.scan b.in_literal b.before) (sym c.split_at.ensures.back) ∙ sym c.ends_step.ensures ∙ c.if-ends_step.false)
          (c.after-scan.ensures ∙ ap (after b.scan) c.split_at.ensures.back)
          (c.in_literal_after-in_literal.ensures ∙ ap (in_literal_after b.scan b.in_literal) c.split_at.ensures.back)
          (c.end_with-end.ensures ∙ ap (end_with b.scan b.at b.end) c.split_at.ensures.back)
          ∙ b.invariant.1,
    )

use Rattle.std.proofs.Common.{◌∙◌, ap, arith, sym}
use Rattle.function_spans.specs.declared.bodies.Scan.{Scan}
use Rattle.function_spans.specs.Bodies.{after}
use Rattle.function_spans.proofs.BodySizes.{depth_grows}
use Rattle.function_spans.proofs.Values.{value_later}
use Rattle.function_spans.proofs.calls.value_text.Goals as goal

pub bytes-preserved : goal.bytes-preserved
bytes-preserved c =
    let b = c.bytes in
    let rest = c.split_at.result.1.now in (
      omega (arith, ap (λ (s : Scan). s.depth) c.after-scan.ensures, depth_grows b.scan rest, b.invariant.0),
      value_later b.scan c.args.text.now b.at c.after-scan.result c.bytes-test.true
          (sym c.is_binding.ensures ∙ c.if-is_binding.false) (sym c.ends_simple.ensures ∙ c.if-ends_simple.false)
          (c.after-scan.ensures ∙ ap (after b.scan) c.split_at.ensures.back)
          ∙ b.invariant.1,
    )

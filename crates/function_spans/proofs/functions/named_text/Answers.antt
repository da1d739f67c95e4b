use Rattle.std.proofs.Common.{◌∙◌, ap, arith, sym}
use Rattle.function_spans.specs.declared.bodies.Scan.{Scan}
use Rattle.function_spans.specs.Bodies.{after}
use Rattle.function_spans.proofs.BodySizes.{depth_grows}
use Rattle.function_spans.proofs.Heads.{name_later}
use Rattle.function_spans.proofs.functions.named_text.Goals as goal

pub bytes-preserved : goal.bytes-preserved
bytes-preserved c =
    let text = c.args.text.now in
    let rest = c.split_at.result.1.now in (
      omega (arith, ap (λ (s : Scan). s.depth) c.after-scan.ensures, depth_grows c.bytes.scan rest, c.bytes.invariant.0),
      name_later c.bytes.scan text c.bytes.at c.after-scan.result c.bytes-test.true
          (sym c.begins_name.ensures ∙ c.if-begins_name.false)
          (c.after-scan.ensures ∙ ap (after c.bytes.scan) c.split_at.ensures.back)
          ∙ c.bytes.invariant.1,
    )

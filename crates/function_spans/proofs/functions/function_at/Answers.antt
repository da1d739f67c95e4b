use Rattle.std.proofs.Common.{◌∙◌, ap, arith, sym}
use Rattle.function_spans.specs.declared.bodies.Scan.{Scan}
use Rattle.function_spans.specs.Bodies.{after}
use Rattle.function_spans.specs.Functions.{open_behind, open_with}
use Rattle.function_spans.proofs.BodySizes.{depth_grows}
use Rattle.function_spans.proofs.Opens.{open_here, open_on, open_past}
use Rattle.function_spans.proofs.functions.function_at.Goals as goal

pub returns-then-at-offset : goal.returns-then-at-offset
returns-then-at-offset c =
    let b = c.bytes in
    c.open_with.ensures ∙ ap (open_with b.scan b.at b.around) c.split_at.ensures.back
    ∙ (sym (open_here b.scan c.args.text.now b.at c.args.offset b.around c.bytes-test.true c.if-at-offset.true) ∙ b.invariant.2)

pub bytes-preserved : goal.bytes-preserved
bytes-preserved c =
    let b = c.bytes in
    let rest = c.split_at.result.1.now in (
      omega (arith, ap (λ (s : Scan). s.depth) c.after-scan.ensures, depth_grows b.scan rest, b.invariant.0),
      omega (arith, c.if-at-offset.false, b.invariant.1),
      open_on b.scan c.args.text.now b.at c.args.offset b.around c.after-scan.result _ c.bytes-test.true
          (omega (arith, c.if-at-offset.false, b.invariant.1))
          (c.open_behind-around.ensures ∙ ap (open_behind b.scan b.at b.around) c.split_at.ensures.back)
          (c.after-scan.ensures ∙ ap (after b.scan) c.split_at.ensures.back)
          ∙ b.invariant.2,
    )

pub returns : goal.returns
returns c =
    let b = c.bytes in
    sym (open_past b.scan c.args.text.now b.at c.args.offset b.around c.bytes-test.false) ∙ b.invariant.2

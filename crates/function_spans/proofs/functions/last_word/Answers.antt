use Rattle.std.proofs.Common.{◌∙◌, ap, arith, sym}
use Rattle.function_spans.specs.declared.bodies.Scan.{Scan}
use Rattle.function_spans.specs.Bodies.{after}
use Rattle.function_spans.specs.Functions.{later_word}
use Rattle.function_spans.proofs.BodySizes.{depth_grows}
use Rattle.function_spans.proofs.Heads.{type_later}
use Rattle.function_spans.proofs.functions.last_word.Goals as goal

pub bytes-preserved : goal.bytes-preserved
bytes-preserved c =
    let b = c.bytes in
    let text = c.args.text.now in
    let rest = c.split_at.result.1.now in (
      omega (arith, ap (λ (s : Scan). s.depth) c.after-scan.ensures, depth_grows b.scan rest, b.invariant.0),
      type_later b.scan text b.at b.found.now c.after-scan.result _ c.bytes-test.true
          (sym c.begins_name.ensures ∙ c.if-begins_name.false)
          (c.after-scan.ensures ∙ ap (after b.scan) c.split_at.ensures.back)
          (c.later_word-found.ensures ∙ ap (later_word b.scan b.found.now) c.split_at.ensures.back)
          ∙ b.invariant.1,
    )

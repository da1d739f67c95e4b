use Rattle.std.proofs.Common.{◌∙◌, ap, arith, sym}
use Rattle.function_spans.specs.declared.bodies.Scan.{Scan}
use Rattle.function_spans.specs.Bodies.{after}
use Rattle.function_spans.proofs.BodySizes.{body_ends, body_goes_on, depth_grows, no_body_end}
use Rattle.function_spans.proofs.bodies.body_size.Goals as goal

pub returns-then-ends-clause-is : goal.returns-then-ends-clause-is
returns-then-ends-clause-is c =
    sym (body_ends c.bytes.scan c.args.text.now c.bytes.size c.bytes-test.true (sym c.ends.ensures ∙ c.if-ends.true))
    ∙ c.bytes.invariant.is

pub bytes-preserved : goal.bytes-preserved
bytes-preserved c =
    let text = c.args.text.now in
    let rest = c.split_at.result.1.now in
    record {
      depth =
          omega (arith, ap (λ (s : Scan). s.depth) c.after-scan.ensures, depth_grows c.bytes.scan rest, c.bytes.invariant.depth);
      within = omega arith;
      is =
          body_goes_on c.bytes.scan text c.bytes.size c.after-scan.result c.bytes-test.true (sym c.ends.ensures ∙ c.if-ends.false)
          (c.after-scan.ensures ∙ ap (after c.bytes.scan) c.split_at.ensures.back)
          ∙ c.bytes.invariant.is;
    }

pub returns-clause-is : goal.returns-clause-is
returns-clause-is c =
    sym (no_body_end c.bytes.scan c.args.text.now c.bytes.size c.bytes-test.false) ∙ c.bytes.invariant.is

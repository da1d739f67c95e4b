use Rattle.std.proofs.Common.{◌∙◌, ◌+◌, ◌-◌, ap, arith, drop, get_or, sym}
use Rattle.function_spans.specs.declared.bodies.Scan.{Scan}
use Rattle.function_spans.specs.Bodies.{after}
use Rattle.function_spans.specs.Functions.{in_literal_from, literal_holds}
use Rattle.function_spans.proofs.BodySizes.{depth_grows}
use Rattle.function_spans.proofs.Opens.{behind_end, literal_is, literal_on, literal_past, no_literal}
use Rattle.function_spans.proofs.functions.is_in_literal.Goals as goal

pub returns-then-function-text : goal.returns-then-function-text
returns-then-function-text c = sym (behind_end c.args.text.now c.args.function c.args.offset c.if-function-text.true)

pub bytes-init : goal.bytes-init
bytes-init c =
    let whole = c.split_at.result.1.now in
    let text = c.args.text.now in
    let at = c.args.function in
    let start = c.after-scan.ensures ∙ (λ i. after (c.at_start.ensures i) (c.split_at.ensures.back i)) in (
      omega (arith, ap (λ (s : Scan). s.depth) c.after-scan.ensures, ap (λ (s : Scan). s.depth) c.at_start.ensures, depth_grows c.at_start.result whole),
      ap (λ (s : Scan). in_literal_from s (get_or text at 0) (c.args.offset - (at + 1)) (drop (at + 1) text)) start,
    )

pub returns-then-literal_holds : goal.returns-then-literal_holds
returns-then-literal_holds c =
    let b = c.bytes in
    sym (literal_is b.scan c.args.text.now b.at c.args.offset b.before c.bytes-test.true
    ((λ i. literal_holds b.scan b.before (sym c.saturating_sub.ensures i) (sym c.split_at-in-bytes.ensures.back i)) ∙ sym c.literal_holds.ensures ∙ c.if-literal_holds.true))
    ∙ b.invariant.1

pub returns-then-offset-at : goal.returns-then-offset-at
returns-then-offset-at c =
    let b = c.bytes in
    sym (no_literal b.scan c.args.text.now b.at c.args.offset b.before c.bytes-test.true
    ((λ i. literal_holds b.scan b.before (sym c.saturating_sub.ensures i) (sym c.split_at-in-bytes.ensures.back i)) ∙ sym c.literal_holds.ensures ∙ c.if-literal_holds.false)
    c.if-offset-at.true)
    ∙ b.invariant.1

pub bytes-preserved : goal.bytes-preserved
bytes-preserved c =
    let b = c.bytes in
    let rest = c.split_at-in-bytes.result.1.now in (
      omega (arith, ap (λ (s : Scan). s.depth) c.after-scan-in-bytes.ensures, depth_grows b.scan rest, b.invariant.0),
      literal_on b.scan c.args.text.now b.at c.args.offset b.before c.after-scan-in-bytes.result _ c.bytes-test.true
          ((λ i. literal_holds b.scan b.before (sym c.saturating_sub.ensures i) (sym c.split_at-in-bytes.ensures.back i)) ∙ sym c.literal_holds.ensures ∙ c.if-literal_holds.false)
          c.if-offset-at.false c.solid_after-before.ensures
          (c.after-scan-in-bytes.ensures ∙ ap (after b.scan) c.split_at-in-bytes.ensures.back)
          ∙ b.invariant.1,
    )

pub returns : goal.returns
returns c =
    let b = c.bytes in
    sym (literal_past b.scan c.args.text.now b.at c.args.offset b.before c.bytes-test.false) ∙ b.invariant.1

use Rattle.std.proofs.Common.{◌∙◌, ◌+◌, ap, sym}
use Rattle.function_spans.specs.Bodies.{at_start, size_from}
use Rattle.function_spans.proofs.BodySizes.{no_body_end}
use Rattle.function_spans.proofs.bodies.body_end.Goals as goal

pub returns-then-function-text : goal.returns-then-function-text
returns-then-function-text c = sym (no_body_end at_start c.args.text.now c.args.function c.if-function-text.true)

pub returns : goal.returns
returns c = ap (λ k. c.args.function + k) (c.body_size.ensures.is ∙ ap (size_from at_start) c.split_at.ensures.back)

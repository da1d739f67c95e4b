use Rattle.std.proofs.Common.{ap}
use Rattle.tree.specs.View.{expression_syntax, expressions_syntax}
use Rattle.tree.proofs.Views.{spec_and-Value, spec_and-Type}
use Rattle.meaning.specs.Mentions.{expression_marks, expressions_marks}
use Rattle.marks.proofs.AddingBy.{same_adds, then_alone_adds}
use Rattle.marks.proofs.file.outer_spec.Goals as goal

pub returns-in_ok-optional-in-Value : goal.returns-in_ok-optional-in-Value
returns-in_ok-optional-in-Value c =
    rw (c.in-Value.is, spec_and-Value, ← c.deref.ensures.value)
    (then_alone_adds _ _ _ _ _ _ c.in_ok-optional-in-Value.ensures
    (same_adds _ _ _ _ _ (ap (λ s. expressions_marks s (expressions_syntax c.deref.result.now)) c.part_of.ensures) c.expressions.ensures))

pub returns-in_ok-type_parameters-in-Type : goal.returns-in_ok-type_parameters-in-Type
returns-in_ok-type_parameters-in-Type c =
    rw (c.in-Type.is, spec_and-Type, ← c.deref-in-Type.ensures.value, ← c.deref-in-Type-2.ensures)
    (then_alone_adds _ _ _ _ _ _ c.in_ok-type_parameters-in-Type.ensures
    (same_adds _ _ _ _ _ (ap (λ s. expression_marks s (expression_syntax c.deref-in-Type-2.result.now)) c.part_of-in-Type.ensures)
    c.expression.ensures))

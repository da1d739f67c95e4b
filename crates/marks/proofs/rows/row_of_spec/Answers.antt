use Rattle.std.proofs.Common.{Some, ap, refl}
use Rattle.tree.specs.View.{optional_expression_syntax}
use Rattle.tree.proofs.Views.{spec_and-Value, spec_and-Type}
use Rattle.marks.proofs.WalkSteps.{declared_same}
use Rattle.marks.proofs.rows.row_of_spec.Goals as goal

pub returns-in-Value : goal.returns-in-Value
returns-in-Value c =
    rw (c.in-Value.is, spec_and-Value)
    (ap Some
    (declared_same c.args.keyword c.args.at (optional_expression_syntax c.in-Value.kind) _ _ _ _ c.deref.ensures.value
    c.deref-in-Value.ensures.value))

pub returns-in-Type : goal.returns-in-Type
returns-in-Type c = rw (c.in-Type.is, spec_and-Type) refl

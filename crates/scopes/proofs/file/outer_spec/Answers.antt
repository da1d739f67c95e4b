use Rattle.std.proofs.Common.{sym, ◌∙◌}
use Rattle.tree.proofs.Views.{spec_and-Value, spec_and-Type}
use Rattle.scopes.proofs.Adding.{adds_same, three_adds, alone_adds, then_alone_adds, type_block}
use Rattle.scopes.proofs.file.outer_spec.Goals as goal

pub returns-in_ok-optional-in-Value : goal.returns-in_ok-optional-in-Value
returns-in_ok-optional-in-Value c =
    rw (c.in-Value.is, spec_and-Value, ← c.deref.ensures.value)
    (then_alone_adds _ _ _ _ _ _ c.in_ok-optional-in-Value.ensures c.expressions.ensures)

pub returns-in_ok-parameters-in-Type : goal.returns-in_ok-parameters-in-Type
returns-in_ok-parameters-in-Type c =
    rw (c.in-Type.is, spec_and-Type, ← c.deref-in-Type-2.ensures.value, ← c.deref-in-Type-3.ensures)
    (three_adds _ _ _ _ _ _ _ _
    (adds_same _ _ _ _ (type_block _ _ _ _ c.behind_name.ensures (c.deref-in-Type.ensures.value ∙ sym c.deref-in-Type-2.ensures.value))
    c.in_ok-declare_type_parameters-in-Type.ensures)
    c.in_ok-parameters-in-Type.ensures (alone_adds _ _ _ _ c.expression.ensures))

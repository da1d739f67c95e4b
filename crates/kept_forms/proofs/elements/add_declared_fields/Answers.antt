use Rattle.std.proofs.Common.{[], if◌then◌else◌, sym, ap, ◌∙◌}
use Rattle.meaning.specs.Kept.{only_value_of, some_fields}
use Rattle.mentions.specs.MarkViews.{form_view}
use Rattle.tree.specs.View.{expressions_syntax}
use Rattle.kept_forms.proofs.AddedParts.{ok_same, adds_none_of}
use Rattle.kept_forms.proofs.DeclaredForms.{declared_if}
use Rattle.kept_forms.proofs.elements.add_declared_fields.Goals as goal

pub returns-then-declares_one : goal.returns-then-declares_one
returns-then-declares_one c =
    let only = some_fields (only_value_of (expressions_syntax c.args.values.now)) in
    ok_same c.add_only_fields.result _ _ _ _
    (ap (λ b. if b then only else []) (sym c.if-declares_one.true ∙ c.declares_one.ensures)
    ∙ sym (declared_if (form_view c.args.form) (expressions_syntax c.args.values.now)))
    c.add_only_fields.ensures

pub returns : goal.returns
returns c =
    let only = some_fields (only_value_of (expressions_syntax c.args.values.now)) in
    adds_none_of _ _
    (ap (λ b. if b then only else []) (sym c.if-declares_one.false ∙ c.declares_one.ensures)
    ∙ sym (declared_if (form_view c.args.form) (expressions_syntax c.args.values.now)))

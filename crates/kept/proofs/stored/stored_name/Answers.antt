use Rattle.std.proofs.Common.{None, if◌then◌else◌, sym, ap, ◌∙◌}
use Rattle.mentions.specs.MarkViews.{row_view}
use Rattle.meaning.specs.Kept.{only_value_of, some_bare}
use Rattle.kept.proofs.AssignedForms.{stored_if}
use Rattle.kept.proofs.stored.stored_name.Goals as goal

pub returns-then-assigns_one : goal.returns-then-assigns_one
returns-then-assigns_one c =
    let row = row_view c.args.row in
    let name = some_bare (only_value_of row.values) in
    c.only_name.ensures
    ∙ (ap (λ b. if b then name else None) (sym c.if-assigns_one.true ∙ c.assigns_one.ensures)
    ∙ sym (stored_if row.form row.values))

pub returns-else-assigns_one : goal.returns-else-assigns_one
returns-else-assigns_one c =
    let row = row_view c.args.row in
    let name = some_bare (only_value_of row.values) in
    ap (λ b. if b then name else None) (sym c.if-assigns_one.false ∙ c.assigns_one.ensures)
    ∙ sym (stored_if row.form row.values)

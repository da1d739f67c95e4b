use Rattle.std.proofs.Common.{◌++◌, map, append_assoc, ap, ◌∙◌}
use Rattle.facts.proofs.FactParts.{on_ok}
use Rattle.mentions.specs.MarkViews.{assigned_view}
use Rattle.tracked.specs.LocalViews.{local_view, seen_view}
use Rattle.tree.specs.View.{identifier_syntax}
use Rattle.uses.specs.OutcomeViews.{fault_view, first_field_faults, type_field_faults}
use Rattle.uses.proofs.FieldFaults.{obtained_faults}
use Rattle.uses.proofs.fields.add_obtained.Goals as goal

pub returns : goal.returns
returns c =
    let seen = seen_view c.args.seen.now in
    let local = local_view c.args.local in
    let field = identifier_syntax c.args.field.now in
    let row = (assigned_view c.args.assigned).row in
    let k = (assigned_view c.args.assigned).left_side in
    let before = map fault_view c.args.faults.now.items in
    on_ok c.add_type.result
    (λ h. h ∙ ap (λ fs. fs ++ type_field_faults seen local field row k) c.in_ok-add_first.ensures
    ∙ append_assoc before (first_field_faults row.standing field) (type_field_faults seen local field row k)
    ∙ ap (λ fs. before ++ fs) (obtained_faults seen local field row k))
    c.add_type.ensures

use Rattle.std.proofs.Common.{ap}
use Rattle.tracked.specs.LocalViews.{seen_view}
use Rattle.meaning.specs.KeepingFields.{field_of_obtained}
use Rattle.kept_forms.specs.FormViews.{element_view}
use Rattle.kept_forms.proofs.AddedParts.{ok_same}
use Rattle.kept_events.proofs.told_names.add_element.Goals as goal

pub returns : goal.returns
returns c =
    ok_same c.add_variable.result _ _ _ _
    (ap (field_of_obtained (seen_view c.args.here.around.seen.now) (element_view c.args.element).field)
    c.carried-variable.ensures)
    c.add_variable.ensures

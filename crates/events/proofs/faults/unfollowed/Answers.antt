use Rattle.std.proofs.Common.{map, not, ◌++◌, if◌then◌else◌, [], ap, ◌∙◌}
use Rattle.meaning.specs.BodyEvents.{too_many_faults}
use Rattle.meaning.specs.Jumps.{jumps_in}
use Rattle.mentions.specs.MarkViews.{body_view}
use Rattle.uses.specs.OutcomeViews.{fault_view}
use Rattle.events.specs.ToldViews.{faults_of_jumps}
use Rattle.events.specs.VariableViews.{variable_view}
use Rattle.events.proofs.VariableFaults.{are_unfollowed}
use Rattle.events.proofs.faults.unfollowed.Goals as goal

pub returns : goal.returns
returns c = λ seen same.
    let many = too_many_faults (map variable_view c.args.variables.now) in
    let jumps = if not c.is_empty.result then faults_of_jumps (jumps_in (body_view c.args.body).statements) else [] in
    c.in_ok-add_jumps.ensures
    ∙ ap (λ fs. fs ++ jumps) (c.in_ok-add_too_many.ensures ∙ ap (λ fs. map fault_view fs ++ many) c.new-faults.ensures.items)
    ∙ are_unfollowed seen (body_view c.args.body) c.args.variables.now c.is_empty.result c.is_empty.ensures same

use Rattle.std.proofs.Common.{map, ◌++◌, if◌then◌else◌, [], ap, ◌∙◌}
use Rattle.facts.proofs.FactParts.{on_ok}
use Rattle.meaning.specs.Jumps.{jumps_in}
use Rattle.meaning.specs.OuterBlocks.{has_any}
use Rattle.mentions.specs.MarkViews.{body_view}
use Rattle.uses.specs.OutcomeViews.{fault_view}
use Rattle.events.specs.ToldViews.{faults_of_jumps}
use Rattle.events.proofs.by_variables.add_jumps_in.Goals as goal

pub returns : goal.returns
returns c =
    let told = map fault_view c.args.faults.now.items in
    let jumps = faults_of_jumps (jumps_in (body_view c.args.body).statements) in
    on_ok c.add_jumps.result
    (λ h. h ∙ ap (λ t. told ++ (if t then jumps else [])) (c.has_any.ensures ∙ ap has_any (c.requires.are_variables c.args.body.at)))
    c.add_jumps.ensures

use Rattle.std.proofs.Common.{map, ◌++◌, ap, ◌∙◌}
use Rattle.facts.proofs.FactParts.{on_ok}
use Rattle.meaning.specs.Jumps.{jumps_in}
use Rattle.mentions.specs.MarkViews.{body_view}
use Rattle.uses.specs.OutcomeViews.{fault_view}
use Rattle.events.specs.ToldViews.{faults_of_jumps}
use Rattle.events.proofs.VariableFaults.{adds_if, adds_none}
use Rattle.events.proofs.by_variables.add_jumps.Goals as goal

pub returns-then-not-has_variables : goal.returns-then-not-has_variables
returns-then-not-has_variables c =
    adds_none c.args.faults.now.items (faults_of_jumps (jumps_in (body_view c.args.body).statements)) c.args.has_variables
    c.if-not-has_variables.true

pub returns : goal.returns
returns c =
    let told = map fault_view c.args.faults.now.items in
    let jumps = jumps_in (body_view c.args.body).statements in
    on_ok c.add_all.result
    (λ h. adds_if c.args.faults.now.items (faults_of_jumps jumps) c.args.has_variables c.if-not-has_variables.false
    c.add_all.new.faults.items (h ∙ ap (λ js. told ++ faults_of_jumps js) (c.deref.ensures.value ∙ c.in_ok-jumps.ensures)))
    c.add_all.ensures

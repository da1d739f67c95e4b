use Rattle.facts.specs.FactViews.{kind_view}
use Rattle.tracked.specs.LocalViews.{local_view}
use Rattle.events.specs.VariableViews.{variables_in}
use Rattle.events.proofs.VariablesFound.{entry_next}
use Rattle.events.proofs.found.add_captured.Goals as goal

pub loop-index-preserved : goal.loop-index-preserved
loop-index-preserved c = λ body.
    entry_next (local_view c.args.tracked.local) (kind_view c.args.tracked.kind) body c.args.bodies.now.entries c.loop-index.index
    (variables_in c.loop-index.lists body) (variables_in c.add_entry.new.lists body) _ (c.in_ok-add_entry.ensures body)
    (c.loop-index.invariant body)

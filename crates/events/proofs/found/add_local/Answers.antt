use Rattle.facts.specs.FactViews.{kind_view}
use Rattle.facts.proofs.FactParts.{on_ok}
use Rattle.tracked.specs.LocalViews.{local_view}
use Rattle.events.proofs.VariablesFound.{adds_local}
use Rattle.events.proofs.found.add_local.Goals as goal

pub returns : goal.returns
returns c =
    on_ok c.add_captured.result
    (adds_local (local_view c.args.tracked.local) (kind_view c.args.tracked.kind) c.in_ok-bodies.bodies c.args.sightings.now
    c.in_ok-bodies.ensures c.args.lists.now c.add_own.new.lists c.add_captured.new.lists c.in_ok-add_own.ensures)
    c.add_captured.ensures

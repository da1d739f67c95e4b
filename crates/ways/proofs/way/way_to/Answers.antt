use Rattle.std.proofs.Common.{List, ◌+◌, Contains, map, option_map, take, sym, ap, ◌∙◌, subst, take_all}
use Rattle.bodies.specs.NodeEvents.{events_graph}
use Rattle.events.specs.VariableViews.{variable_view}
use Rattle.meaning.proofs.Membership.{contains_nil}
use Rattle.meaning.specs.BodyEvents.{Variable}
use Rattle.path_faults.specs.FaultViews.{fault_view}
use Rattle.ways.proofs.BestWays.{TellsBest, in_body, with_one, without, best_of_all}
use Rattle.ways.specs.Asked.{way_view}
use Rattle.ways.proofs.way.way_to.Goals as goal
use Rattle.ways.proofs.way.way_to.Goals.{then-eq+in_ok-found, else-eq}

pub loop-variable-init : goal.loop-variable-init
loop-variable-init g c b is v there t o comes = contains_nil v there

pub loop-variable-preserved : goal.loop-variable-preserved
loop-variable-preserved g c b is =
    let f = fault_view c.args.fault in
    let graph = events_graph c.args.asked.now.graph.now in
    let vs = c.args.asked.now.variables.now in
    let i = c.loop-variable.variable-index in
    let less = c.loop-variable-test.true in
    let best = option_map way_view c.loop-variable.best in
    let so_far = c.loop-variable.invariant b is in
    elim c.if-eq.branch [
      | then-eq+in_ok-found w ↦
          subst (λ m. TellsBest b f graph (Contains (map variable_view (take (i + 1) vs))) (option_map way_view m))
          (sym w.best-is)
          (subst (TellsBest b f graph (Contains (map variable_view (take (i + 1) vs)))) (sym w.shorter-best.ensures)
          (with_one b f graph vs i _ less best so_far (option_map way_view w.in_ok-found.found)
          (w.in_ok-found.ensures b is (in_body b vs i _ is.are_variables less))))
      | else-eq w ↦
          subst (λ m. TellsBest b f graph (Contains (map variable_view (take (i + 1) vs))) (option_map way_view m))
          (sym w.best-is)
          (without b f graph vs i _ less best so_far (sym c.eq.ensures ∙ w.if-eq.false))
    ]

pub returns : goal.returns
returns g c b is =
    let f = fault_view c.args.fault in
    let graph = events_graph c.args.asked.now.graph.now in
    let vs = c.args.asked.now.variables.now in
    let i = c.loop-variable.variable-index in
    let best = option_map way_view c.loop-variable.best in
    best_of_all b f graph best
    (subst (λ (ws : List Variable). TellsBest b f graph (Contains ws) best)
    (ap (map variable_view) (take_all i vs c.loop-variable-test.false) ∙ sym is.are_variables)
    (c.loop-variable.invariant b is))

use Rattle.std.proofs.lemmas.Result.{IfOk-weaker}
use Rattle.credits.specs.CreditViews.{has}
use Rattle.credits.proofs.SearchedPaths.{paths_told, nodes_told}
use Rattle.bodies.specs.Solutions.{cancel_arrives, group_arrives}
use Rattle.credits.proofs.search.search_body.Goals as goal

pub returns-clause-paths : goal.returns-clause-paths
returns-clause-paths g c =
    IfOk-weaker c.solve.result _ _
    (λ solution classified file seen b tells is_kept.
    paths_told file seen b c.args.body.now tells c.args.kept.now is_kept (g.C.Calls.are_called c.args.calls.now)
    (has c.args.credits.now) (cancel_arrives solution) (group_arrives solution) c.deref.result.now c.deref.ensures.value
    classified)
    c.solve.ensures.classes

pub returns-clause-nodes : goal.returns-clause-nodes
returns-clause-nodes g c =
    IfOk-weaker c.solve.result _ _
    (λ solution classified file seen b tells is_kept.
    nodes_told file seen b c.args.body.now tells c.args.kept.now is_kept (g.C.Calls.are_called c.args.calls.now)
    (has c.args.credits.now) (cancel_arrives solution) (group_arrives solution) c.deref.result.now c.deref.ensures.value
    classified)
    c.solve.ensures.nodes

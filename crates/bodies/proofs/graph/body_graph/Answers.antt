use Rattle.tree.specs.View.{statements_syntax}
use Rattle.code.specs.CodeViews.{block_of, code_view}
use Rattle.body_code.specs.SiteViews.{sites_view}
use Rattle.bodies.proofs.WholeGraph.{of_built}
use Rattle.bodies.proofs.graph.body_graph.Goals as goal

pub returns : goal.returns
returns c =
    of_built c.build.result c.args.told.now c.args.body.at
    (block_of (statements_syntax c.args.body.statements.now) c.args.body.braces) (sites_view c.in_ok-sites.sites)
    (code_view c.in_ok-code.code) c.in_ok-sites.ensures c.in_ok-code.ensures c.build.ensures.graph

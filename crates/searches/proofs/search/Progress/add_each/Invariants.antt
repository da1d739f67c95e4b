use Rattle.std.proofs.Common.{drop}
use Rattle.searches.specs.Searching.{HasRoom, Adds}
use Rattle.searches.specs.declared.search.Progress.{Progress}
use Rattle.searches.specs.contracts.search.Progress.add_each.{E-type}
use Rattle.searches.proofs.search.Progress.add_each.Given as goal

-- what adds the nodes that are left adds all
abbrev pub invariant-loop-node : goal.invariant-loop-node
invariant-loop-node g l =
    HasRoom l.self
    × ((end : Progress)
    → Adds (E-type g.row.E) (drop l.node-index l.nodes) l.class l.before l.self end
    → Adds (E-type g.row.E) l.nodes l.class l.before l.initial.self end)

use Rattle.std.proofs.Common.{ap, map, ◌++◌, sym}
use Rattle.whole_packages.specs.LoadedViews.{numbered_view}
use Rattle.whole_packages.proofs.NumberedTrees.{goes_on_without}
use Rattle.whole_packages.proofs.numbered.add_tree.Goals as goal

pub returns-in-Tree-None : goal.returns-in-Tree-None
returns-in-Tree-None c = λ rs.
    ap (λ ts. map numbered_view c.args.found.now.items ++ ts)
    (goes_on_without c.args.file c.args.reading rs c.args.trees.now (sym c.in-Tree-None.is-0) c.in-Tree-None.ensures.cases)

use Rattle.given_packages.specs.Neighbours.{nearby_view}
use Rattle.one_package.proofs.ImportedTables.{around_so}
use Rattle.one_package.proofs.judging.around_beside.Goals as goal

pub returns-clause-known : goal.returns-clause-known
returns-clause-known c = λ declared ps tables p told tells knows have marked.
    around_so ps tables p declared (nearby_view c.args.near) tells told have c.args.imports.now knows marked

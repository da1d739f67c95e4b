use Rattle.std.proofs.Common.{sym, subst}
use Rattle.meaning_reports.specs.Loaded.{imported_paths}
use Rattle.given_packages.specs.Neighbours.{TellsNearby}
use Rattle.one_package.specs.Results.{HaveTheirTables, KnowsAll}
use Rattle.given_packages.proofs.NearGiven.{near_given}
use Rattle.one_package.proofs.judging.around.Goals as goal

pub returns-clause-known : goal.returns-clause-known
returns-clause-known c = λ declared ps tables p told given knows have marked.
    let same = sym c.neighbours.ensures in
    c.around_beside.ensures.known declared ps tables p told
    (subst (TellsNearby declared ps p) same (near_given declared ps c.args.given.now given p))
    (subst (λ near. KnowsAll near (imported_paths p) told c.args.imports.now) same knows)
    (subst (λ near. HaveTheirTables near p tables told) same have) marked

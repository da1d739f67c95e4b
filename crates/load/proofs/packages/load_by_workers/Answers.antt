use Rattle.std.proofs.Common.{map}
use Rattle.load.specs.GivenPackages.{entry_of}
use Rattle.load.proofs.GivenLists.{is_load}
use Rattle.load.proofs.packages.load_by_workers.Goals as goal

pub returns-clause-loaded : goal.returns-clause-loaded
returns-clause-loaded g c =
    is_load (map entry_of c.args.given.items) c.in_ok-packages.packages.items c.in_ok-load_all.field-0.items
    c.in_ok-packages.ensures.ordered c.in_ok-load_all.ensures

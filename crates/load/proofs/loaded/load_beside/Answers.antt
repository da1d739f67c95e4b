use Rattle.declared_json.specs.DeclaredPackages.{packages_of}
use Rattle.load.proofs.FirstGiven.{is_beside, is_fault_beside}
use Rattle.load.proofs.loaded.load_beside.Goals as goal

pub returns-clause-loaded : goal.returns-clause-loaded
returns-clause-loaded c =
    is_beside c.args.given.items c.in_ok-packages.packages c.args.outside c.beside.result c.in_ok-packages.ensures.loaded
    c.in_ok-packages.ensures.can_be_loaded c.beside.ensures.packages c.beside.ensures.outside c.beside.ensures.apart

pub returns-clause-fault : goal.returns-clause-fault
returns-clause-fault c =
    is_fault_beside c.args.given.items c.in_ok-packages.packages.items (packages_of c.args.outside) c.beside.result
    c.in_ok-packages.ensures.loaded c.in_ok-packages.ensures.can_be_loaded c.beside.ensures.fault

use denote.Param.{param}
use denote.Param.Send.{IsSync, sendable}
use denote.Ref.{NamedLft}
use Rattle.package_workers.specs.contracts.checking.Shared as work
use Rattle.package_workers.proofs.Shared.{all_shared}
use Rattle.package_workers.proofs.checking.all_work.Goals as goal

pub work_all-all_started-requires-sync-S : goal.work_all-all_started-requires-sync-S
work_all-all_started-requires-sync-S g c κs within =
    let shared : (κ ι μ : NamedLft)
    → IsSync (work.the_row κ ι μ (param 0 g.row.B) (param 1 g.row.R) (param 3 g.row.G) g.B.Naming) =
    λ κ ι μ.
    all_shared κ ι μ (param 0 g.row.B) (param 1 g.row.R) (param 3 g.row.G) g.B.Naming c.type_bounds.sync-R
    c.type_bounds.sync-G c.packages_are_shared.ensures in
    search (sendable, shared)

-- What threads may share: what workers judge by, where packages may be shared. It is looked for part by part, since it
-- is too large to be found at once.
use denote.Param.Send.{IsSync, sendable}
use denote.Param.SendFields.{declared_sync}
use denote.RattleType.{RattleType}
use denote.Ref.{NamedLft}
use Rattle.std.proofs.alloc.Global.TheSendSync as alloc
use Rattle.std.proofs.hash.BuildHasherDefault.TheSendSync as hasher
use Rattle.std.proofs.hash.FoldHasher.TheSendSync as fold
use Rattle.std.proofs.vec.Vec.TheSendSync as vec
use Rattle.indexmap.proofs.map.IndexMap.TheSendSync as map
use Rattle.imports.proofs.import_list.ImportList.TheSendSync as list
use Rattle.imports.proofs.ranks.Order.TheSendSync as order
use Rattle.names.proofs.package_names.PackageNames.TheSendSync as names
use Rattle.declared_tables.proofs.tables.DeclaredTables.TheSendSync as tables
use Rattle.declared_json.proofs.outside.DeclaredPackages.TheSendSync as outside
use Rattle.workers.proofs.count.Workers.TheSendSync as count
use Rattle.whole_packages.specs.contracts.loaded_package.LoadedPackage as loaded
use Rattle.given_packages.specs.contracts.given.Given as given
use Rattle.package_workers.specs.contracts.checking.Shared as shared
use Rattle.package_workers.specs.contracts.judging.Judging as judging
use Rattle.package_workers.specs.declared.naming.Naming.{Ghosts}
use Rattle.package_workers.proofs.shared_board.Board.TheSendSync as board

pub given_shared : (κ : NamedLft) → IsSync loaded.the_row → IsSync (given.the_row κ)
given_shared κ p =
    declared_sync (given.the_type κ) (
      search (sendable, p),
      (
        search (sendable, list.the_sync, vec.the_sync, alloc.the_sync),
        (
          search (sendable, vec.the_sync, alloc.the_sync),
          (
            search (sendable, order.the_sync),
            (
              search (sendable, map.the_sync, alloc.the_sync, hasher.the_sync, fold.the_sync),
              (
                search (sendable, vec.the_sync, alloc.the_sync),
                (
                  search (sendable, vec.the_sync, alloc.the_sync),
                  (
                    search (sendable, vec.the_sync, alloc.the_sync),
                    (search (sendable, names.the_sync), (search (sendable, tables.the_sync), tt)),
                  ),
                ),
              ),
            ),
          ),
        ),
      ),
    )

pub judging_shared : (R : RattleType) (κ ι : NamedLft) → IsSync R → IsSync loaded.the_row → IsSync (judging.the_row κ ι R)
judging_shared R κ ι r p =
    let known : IsSync (given.the_row ι) = given_shared ι p in
    declared_sync (judging.the_type κ ι R) (
      search (sendable, known),
      (search (sendable, outside.the_sync), (search (sendable, r), tt)),
    )

pub all_shared : (κ ι μ : NamedLft) (B R G : RattleType) (names : Ghosts B.Denot)
    → IsSync R
    → IsSync G
    → IsSync loaded.the_row
    → IsSync (shared.the_row κ ι μ B R G names)
all_shared κ ι μ B R G names r gate p =
    let known : IsSync (judging.the_row κ μ R) = judging_shared R κ μ r p in
    declared_sync (shared.the_type κ ι μ B R G names) (
      search (sendable, alloc.the_sync),
      (search (sendable, gate), (search (sendable, board.the_sync), (search (sendable, known), (search (sendable, count.the_sync), tt)))),
    )

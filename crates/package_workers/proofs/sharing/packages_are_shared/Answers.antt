use denote.Param.Send.{IsSync, sendable}
use denote.Param.SendFields.{declared_sync}
use Rattle.std.proofs.alloc.Global.TheSendSync as alloc
use Rattle.std.proofs.string.String.TheSendSync as string
use Rattle.std.proofs.vec.Vec.TheSendSync as vec
use Rattle.tree.proofs.edition.Edition.TheSendSync as edition
use Rattle.whole_packages.specs.contracts.loaded_package.LoadedPackage as loaded
use Rattle.package_workers.proofs.sharing.packages_are_shared.Goals as goal

pub are_shared-requires-5-sync-X : goal.are_shared-requires-5-sync-X
are_shared-requires-5-sync-X c κs =
    let whole : IsSync loaded.the_row = declared_sync loaded.the_type (
      search (sendable, string.the_sync, vec.the_sync, alloc.the_sync),
      (
        search (sendable, edition.the_sync),
        (
          search (sendable, c.are_shared.ensures),
          (search (sendable, c.are_shared-2.ensures), (search (sendable, c.are_shared-3.ensures), tt)),
        ),
      ),
    ) in
    search whole

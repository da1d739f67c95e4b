use denote.Param.Send.{sendable}
use Rattle.std.proofs.Common.{◌∙◌, subst}
use Rattle.std.specs.List.{AllZip}
use Rattle.package_pieces.proofs.Numbered.{come_zip}
use Rattle.package_pieces.proofs.Shared.{body_send}
use Rattle.package_pieces.proofs.SharedJobs.{building_sync}
use Rattle.package_pieces.specs.Built.{IsBuilt}
use Rattle.package_pieces.proofs.building.build_all.Goals as goal

pub work_all-requires-send-X : goal.work_all-requires-send-X
work_all-requires-send-X g c κs within = search (sendable, body_send)

pub work_all-requires-sync-J : goal.work_all-requires-sync-J
work_all-requires-sync-J g c κs within = search (sendable, building_sync)

pub returns : goal.returns
returns g c =
    let files = c.args.files.now in
    let bodies = c.in_ok-bodies.bodies.items in
    c.in_ok-by_file.ensures
    (subst (λ ns. AllZip (IsBuilt files) ns bodies) (c.deref.ensures.value ∙ c.in_ok-numbers.ensures)
    (come_zip (IsBuilt files) 0 c.deref.result.now bodies c.in_ok-bodies.ensures.all))

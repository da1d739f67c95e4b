use denote.Param.Send.{sendable}
use Rattle.std.proofs.lemmas.Result.{IfOk-weaker}
use Rattle.package_pieces.proofs.Shared.{file_send, tree_sync}
use Rattle.package_pieces.proofs.SharedJobs.{telling_files_sync}
use Rattle.package_pieces.proofs.ToldFiles.{all_told}
use Rattle.package_pieces.proofs.telling.tell_all.Goals as goal

pub work_all-requires-sync-T : goal.work_all-requires-sync-T
work_all-requires-sync-T g c κs within = search (sendable, tree_sync)

pub work_all-requires-send-X : goal.work_all-requires-send-X
work_all-requires-send-X g c κs within = search (sendable, file_send)

pub work_all-requires-sync-J : goal.work_all-requires-sync-J
work_all-requires-sync-J g c κs within = search (sendable, telling_files_sync)

pub returns : goal.returns
returns g c =
    IfOk-weaker c.work_all.result _ _ (λ told come. all_told c.args.telling told.items come) c.work_all.ensures.all

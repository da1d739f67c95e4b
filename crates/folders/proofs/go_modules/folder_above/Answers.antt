use Rattle.folders.proofs.BaseNames.{above_is}
use Rattle.folders.proofs.go_modules.folder_above.Goals as goal

pub returns-clause-above : goal.returns-clause-above
returns-clause-above c =
    let is = above_is c.args.folder.now c.rsplit_once.result c.rsplit_once.ensures.cases in
    (rw c.in_ok-above.was at is).0

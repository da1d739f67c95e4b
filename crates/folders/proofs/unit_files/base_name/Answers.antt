use Rattle.folders.proofs.BaseNames.{base_is}
use Rattle.folders.proofs.unit_files.base_name.Goals as goal

pub returns-in-None : goal.returns-in-None
returns-in-None c =
    let is = base_is c.args.name.now c.rsplit_once.result c.rsplit_once.ensures.cases in
    rw c.in-None.is at is

pub returns-in-Some : goal.returns-in-Some
returns-in-Some c =
    let is = base_is c.args.name.now c.rsplit_once.result c.rsplit_once.ensures.cases in
    rw c.in-Some.is at is

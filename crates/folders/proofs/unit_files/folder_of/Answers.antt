use Rattle.std.proofs.Common.{inl, inr, refl}
use Rattle.folders.proofs.BaseNames.{folder_is}
use Rattle.folders.proofs.unit_files.folder_of.Goals as goal

pub returns-in-None : goal.returns-in-None
returns-in-None c =
    let is = folder_is c.args.name.now c.rsplit_once.result c.rsplit_once.ensures.cases in
    inr (rw c.in-None.is at is, refl)

pub returns-in-Some : goal.returns-in-Some
returns-in-Some c =
    let is = folder_is c.args.name.now c.rsplit_once.result c.rsplit_once.ensures.cases in
    inl (rw c.in-Some.is at is)

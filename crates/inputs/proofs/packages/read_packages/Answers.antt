use Rattle.std.proofs.Common.{drop}
use Rattle.std.proofs.lemmas.List.{get_or_default}
use Rattle.folders.proofs.HandedOn.{handed_on}
use Rattle.folders.proofs.ReadFaults.{read_among}
use Rattle.folders.specs.GoFiles.{IsOfFolder}
use Rattle.folders.specs.ReadFaults.{IsReadFaultOf}
use Rattle.std.proofs.lemmas.List.{drop_all}
use Rattle.inputs.specs.Packages.{IsRead}
use Rattle.inputs.specs.ReadingFaults.{IsOfPackages}
use Rattle.load.proofs.ZippedLists.{zips_all}
use Rattle.inputs.proofs.packages.read_packages.Goals as goal

pub returns-clause-read : goal.returns-clause-read
returns-clause-read g c =
    let packages = c.args.packages.now in
    let at = c.loop-one.one-index in
    zips_all (IsRead c.args.edition) packages (drop at packages) c.loop-one.given.items
    (drop_all at packages c.loop-one-test.false) c.loop-one.invariant

pub returns-in_err-read_package-clause-fault : goal.returns-in_err-read_package-clause-fault
returns-in_err-read_package-clause-fault g c =
    let packages = c.args.packages.now in
    let at = c.loop-one.one-index in
    let fault = c.in_err-read_package.field-0.0 in
    handed_on c.from_residual.result fault (IsReadFaultOf (IsOfPackages packages)) c.from_residual.ensures.1
    (read_among (IsOfFolder _) (IsOfPackages packages) fault
    (λ name is. (_, (at, c.loop-one-test.true, get_or_default packages at _ _ c.loop-one-test.true), is))
    c.in_err-read_package.ensures.fault)

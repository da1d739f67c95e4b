use Rattle.std.proofs.Common.{◌≡◌, codes, inr, refl, rules, true}
use Rattle.folders.specs.GoModules.{is_relative, module_file, IsModuleFileOf}
use Rattle.folders.specs.ReadFaults.{IsReadFaultOf}
use Rattle.folders.proofs.HandedOn.{handed_on}
use Rattle.folders.proofs.ReadFaults.{read_among}
use Rattle.folders.proofs.go_modules.module_here.Goals as goal

pub returns-in_err-path-clause-fault : goal.returns-in_err-path-clause-fault
returns-in_err-path-clause-fault g c =
    let folder = c.args.folder.now in
    let here = codes "." in
    let fault = c.in_err-path.field-0.0 in
    let relative : is_relative folder ≡ true = search rules in
    handed_on c.from_residual.result fault (IsReadFaultOf (IsModuleFileOf folder)) c.from_residual.ensures.1
    (read_among (λ name. name ≡ module_file here) (IsModuleFileOf folder) fault
    (λ name is. (here, inr (relative, refl), is)) c.in_err-path.ensures.fault)

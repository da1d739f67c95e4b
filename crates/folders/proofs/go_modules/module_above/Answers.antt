use Rattle.std.proofs.Common.{◌≡◌, IfSome, inl, refl, subst}
use Rattle.folders.specs.GoModules.{module_file, IsAbove, IsModuleFileOf}
use Rattle.folders.specs.ReadFaults.{IsReadFaultOf}
use Rattle.folders.proofs.HandedOn.{handed_on}
use Rattle.folders.proofs.ReadFaults.{read_among}
use Rattle.folders.proofs.ModuleLines.{next_place}
use Rattle.folders.proofs.go_modules.module_above.Goals as goal

pub places-init : goal.places-init
places-init g c = inl refl

pub places-preserved : goal.places-preserved
places-preserved g c =
    let folder = c.args.folder.now in
    let up = subst (λ o. IfSome o (λ p. IsAbove folder p.now)) c.in-Some.is c.places.invariant in
    next_place folder c.in-Some.place.now c.folder_above-left.result up c.folder_above-left.ensures.above

pub returns-in_err-path-clause-fault : goal.returns-in_err-path-clause-fault
returns-in_err-path-clause-fault g c =
    let folder = c.args.folder.now in
    let place = c.in-Some.place.now in
    let fault = c.in_err-path.field-0.0 in
    let up = subst (λ o. IfSome o (λ p. IsAbove folder p.now)) c.in-Some.is c.places.invariant in
    handed_on c.from_residual.result fault (IsReadFaultOf (IsModuleFileOf folder)) c.from_residual.ensures.1
    (read_among (λ name. name ≡ module_file place) (IsModuleFileOf folder) fault (λ name is. (place, inl up, is))
    c.in_err-path.ensures.fault)

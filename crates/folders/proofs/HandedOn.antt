-- Faults that are handed on.
use Rattle.std.proofs.Common.{◌≡◌, IfErr, IsErrAnd, Result, sym, subst}
use Rattle.std.proofs.lemmas.Result.{err_from_is_err_and}
use Rattle.folders.specs.declared.fault.Fault.{Fault}

-- a fault that `?` hands on as it is
pub handed_on : {T : Type 0} (r : Result T Fault) (fault : Fault) (P : Fault → Type 0) → IsErrAnd r (λ told. told ≡ fault)
    → P fault
    → IfErr r P
handed_on r fault P h holds =
    let told = err_from_is_err_and r h in subst (λ x. IfErr x P) (sym told.1) (subst P (sym told.2) holds)

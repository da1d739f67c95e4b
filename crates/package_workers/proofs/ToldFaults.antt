-- Which faults are told of workers.
use Rattle.std.proofs.Common.{ℕ, Result, Ok, Err, IfErr, sym, subst}
use Rattle.package_workers.specs.Faults.{IsFaultOf, TellsFault}
use Rattle.package_workers.specs.declared.faults.CheckFault.{CheckFault}

module _ (workers packages : ℕ) where
  -- what is told in the end is what workers ended with, or memory
  pub is_fault : {X : Type 0} (ended : Result (Unit {0}) CheckFault) (result : Result X CheckFault)
      → TellsFault ended result
      → IfErr ended (IsFaultOf workers packages)
      → IfErr result (IsFaultOf workers packages)
  is_fault (Err fault) result same is = subst (λ r. IfErr r (IsFaultOf workers packages)) (sym same) is
  is_fault (Ok ended) (Err fault) memory is = subst (IsFaultOf workers packages) (sym memory) tt
  is_fault (Ok ended) (Ok found) memory is = tt

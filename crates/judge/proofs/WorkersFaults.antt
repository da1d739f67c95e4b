-- A fault of workers is one of packages that were loaded.
use Rattle.std.proofs.Common.{◌≡◌, ℕ, List, length, subst, sym}
use Rattle.judge.specs.CheckFaults.{of_workers, IsCheckFault}
use Rattle.judge.specs.declared.check_fault.CheckFault.{CheckFault}
use Rattle.load.specs.LoadedBeside.{IsLoadBeside}
use Rattle.load.specs.declared.loaded.Loaded.{Loaded}
use Rattle.load.specs.declared.packages.GivenPackage.{GivenPackage}
use Rattle.declared_json.specs.DeclaredPackages.{PackageEntry}
use Rattle.package_workers.specs.Faults.{IsFaultOf}
use Rattle.package_workers.specs.declared.faults.CheckFault.{CheckFault as WorkersFault}
use Rattle.package_workers.specs.declared.faults.CheckFault.TheVariants.{Memory, Thread}

module _ (outside : List PackageEntry) (given : List GivenPackage) (workers : ℕ) (loaded : Loaded)
    (beside : IsLoadBeside given outside loaded) where
  is_so : (fault : WorkersFault) → IsFaultOf workers (length loaded.packages.items) fault
      → IsCheckFault outside given workers (of_workers fault)
  is_so Memory is = tt
  is_so Thread is = record { loaded = loaded; load = beside; are_workers = is.0; are_packages = is.1 }

  pub is_of_workers : (fault : WorkersFault) (told : CheckFault) → told ≡ of_workers fault
      → IsFaultOf workers (length loaded.packages.items) fault
      → IsCheckFault outside given workers told
  is_of_workers fault told same is = subst (IsCheckFault outside given workers) (sym same) (is_so fault is)

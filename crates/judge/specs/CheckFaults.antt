-- Why given packages have no report, where several threads judge them. Which thread can't be started no contract knows:
-- it says that all was well until then, and that threads were needed.
use Rattle.std.specs.Prelude.{ℕ, ◌<◌, List, length}
use Rattle.judge.specs.declared.check_fault.CheckFault.{CheckFault}
use Rattle.judge.specs.declared.check_fault.CheckFault.TheVariants.{NotLoaded, NoThread}
use Rattle.load.specs.LoadedBeside.{IsLoadBeside, IsLoadFaultBeside}
use Rattle.load.specs.declared.loaded.Loaded.{Loaded}
use Rattle.load.specs.declared.packages.GivenPackage.{GivenPackage}
use Rattle.load.specs.declared.packages.LoadFault.TheVariants.{OutOfMemory}
use Rattle.declared_json.specs.DeclaredPackages.{PackageEntry}
use Rattle.package_workers.specs.declared.faults.CheckFault.{CheckFault as WorkersFault}
use Rattle.package_workers.specs.declared.faults.CheckFault.TheVariants as workers

-- the packages are loaded, nothing is declared of any of them, and several workers judge them
pub record NeedThreads (outside : List PackageEntry) (given : List GivenPackage) (workers : ℕ) : Type 0 where
  pub loaded : Loaded
  pub load : IsLoadBeside given outside loaded
  pub are_workers : 1 < workers
  pub are_packages : 0 < length loaded.packages.items

-- the fault where so many workers judge them
abbrev pub IsCheckFault : List PackageEntry → List GivenPackage → ℕ → CheckFault → Type 0
IsCheckFault outside given workers (NotLoaded fault) = IsLoadFaultBeside given outside fault
IsCheckFault outside given workers NoThread = NeedThreads outside given workers

-- What serves the proofs: why packages that are loaded are not judged

abbrev pub of_workers : WorkersFault → CheckFault
of_workers workers.Memory = NotLoaded OutOfMemory
of_workers workers.Thread = NoThread

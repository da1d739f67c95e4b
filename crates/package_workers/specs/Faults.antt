-- Why packages are not judged by workers. A worker gives a package back where memory is refused, or where a thread that
-- should help it can't be started. Want of memory is told first, and whatever is refused once all workers have ended is
-- memory.
use Rattle.std.specs.Prelude.{ℕ, ◌≡◌, ◌<◌, Bool, true, false, Result, Ok, Err, IfErr}
use Rattle.package_workers.specs.declared.faults.CheckFault.{CheckFault}
use Rattle.package_workers.specs.declared.faults.Ended.{Ended}
use Rattle.package_workers.specs.declared.faults.CheckFault.TheVariants.{Memory, Thread}

-- by whether a package was given back, whether memory was refused to a worker, and whether each worker could be started
abbrev pub fault_by : Bool → Bool → Bool → Result (Unit {0}) CheckFault
fault_by true true all_started = Err Memory
fault_by true false all_started = Err Thread
fault_by false lacks_memory true = Ok tt
fault_by false lacks_memory false = Err Thread

-- where workers ended with a fault it is told, and else none but that memory was refused
abbrev pub TellsFault : {X : Type 0} → Result (Unit {0}) CheckFault → Result X CheckFault → Type 0
TellsFault (Err fault) result = result ≡ Err fault
TellsFault (Ok ended) result = IfErr result (λ fault. fault ≡ Memory)

-- the fault where so many workers judge so many packages: one worker needs no thread
abbrev pub IsFaultOf : ℕ → ℕ → CheckFault → Type 0
IsFaultOf workers packages Memory = Unit {0}
IsFaultOf workers packages Thread = (1 < workers) × (0 < packages)

-- workers that ended so tell no other fault than so many workers of so many packages may
abbrev pub TellsFor : ℕ → ℕ → Ended → Type 0
TellsFor workers packages ended = (stopped : Bool)
    → IfErr (fault_by stopped ended.lacks_memory ended.all_started) (IsFaultOf workers packages)

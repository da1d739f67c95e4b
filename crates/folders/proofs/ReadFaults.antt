-- Faults of what can't be read.
use Rattle.std.proofs.Common.{ℕ, List}
use Rattle.folders.specs.ReadFaults.{IsReadFaultOf}
use Rattle.folders.specs.declared.fault.Fault.{Fault}
use Rattle.folders.specs.declared.fault.Fault.TheVariants.{CannotRead, OutOfMemory}

-- what is one of these is one of those
pub read_among : (names among : List ℕ → Type 0) (fault : Fault) → ((name : List ℕ) → names name → among name)
    → IsReadFaultOf names fault
    → IsReadFaultOf among fault
read_among names among (CannotRead text) all is =
    record { name = is.name; is_one = all is.name is.is_one; is_told = is.is_told }
read_among names among OutOfMemory all is = tt
read_among names among _ all is = absurd is

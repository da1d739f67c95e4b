-- How calls of the go command fail.
use Rattle.std.proofs.Common.{◌≡◌, false, ℕ, List, Option, IfErr, Result, Ok, Err}
use Rattle.command_line.specs.VetViews.{flags_of}
use Rattle.command_line.specs.VetWords.{asks_unit}
use Rattle.command_line.specs.declared.vet_told.UnitFlags.{UnitFlags}
use Rattle.folders.specs.declared.fault.Fault.{Fault}
use Rattle.folders.specs.declared.fault.Fault.TheVariants.{CannotWrite}
use Rattle.printed.specs.Printing.{is_of_writing}
use Rattle.vet_units.specs.UnitRuns.{FailsByCall, IsPrintBegun, IsUnitRunFault, OfUnit}

-- what is said of the fault of a unit, put together
pub unit_fails : {T : Type 0} (r : Result T Fault) (flags : UnitFlags) (file : List ℕ) (old new : Option (List ℕ))
    → IfErr r (IsUnitRunFault flags file)
    → IfErr r (λ fault. is_of_writing fault ≡ false → new ≡ old)
    → IfErr r (λ fault. fault ≡ CannotWrite → OfUnit flags file (IsPrintBegun old new))
    → IfErr r (FailsByCall (asks_unit (flags_of flags) file) old new)
unit_fails (Ok x) flags file old new is unwritten begun = tt
unit_fails (Err fault) flags file old new is unwritten begun = record {
  is_fault = record { kept = flags; are_kept = λ i. flags_of flags; so = is };
  unwritten = unwritten;
  begun = λ e. record { kept = flags; are_kept = λ i. flags_of flags; so = begun e };
}

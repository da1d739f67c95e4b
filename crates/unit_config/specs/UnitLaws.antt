-- That bytes have one answer.
use Rattle.std.specs.Prelude.{ℕ, ◌≡◌, List}
use Rattle.unit_config.specs.declared.fault.UnitFault.{UnitFault}
use Rattle.unit_config.specs.declared.fault.UnitFault.TheVariants.{OutOfMemory}
use Rattle.unit_config.specs.UnitTexts.{IsUnitFault, IsUnitText}
use Rattle.unit_config.specs.UnitValues.{UnitEntry}

-- bytes tell of one unit at most; and those that tell of one have no fault, but that memory is refused
pub record OneAnswer : Type 0 where
  pub one_unit : (bytes : List ℕ) (u other : UnitEntry) → IsUnitText bytes u → IsUnitText bytes other → other ≡ u
  pub no_fault : (bytes : List ℕ) (u : UnitEntry) (fault : UnitFault) → IsUnitText bytes u
      → IsUnitFault bytes fault
      → fault ≡ OutOfMemory

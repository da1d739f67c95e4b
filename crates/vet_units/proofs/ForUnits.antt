-- What is said of a unit, put together.
use Rattle.command_line.specs.declared.vet_told.UnitFlags.{UnitFlags}
use Rattle.unit_config.specs.UnitValues.{UnitEntry}
use Rattle.vet_units.specs.JudgedUnits.{IsJudgedSo}
use Rattle.vet_units.specs.QuietUnits.{ran_unit}
use Rattle.vet_units.specs.UnitRuns.{ForUnit}
use Rattle.vet_units.specs.UnitsRead.{IsInputOf}
use Rattle.vet_units.specs.declared.unit_input.UnitInput.{UnitInput}
use Rattle.vet_units.specs.declared.unit_report.JudgedUnit.{JudgedUnit}
use Rattle.vet_units.proofs.RanUnits.{quiet_among, silence_is_yes}

pub for_unit : (flags : UnitFlags) (unit : UnitEntry) (input : UnitInput) (judged : JudgedUnit) (holds : JudgedUnit → Type 0)
    → IsInputOf flags unit input
    → IsJudgedSo flags unit input judged
    → holds judged
    → ForUnit flags unit holds
for_unit flags unit input judged holds is_input is_judged so = record {
  input = input;
  is_input = is_input;
  judged = judged;
  is_judged = is_judged;
  is_quiet = λ time. quiet_among (ran_unit flags unit input is_input judged is_judged time);
  silence_is_yes = λ time. silence_is_yes (ran_unit flags unit input is_input judged is_judged time);
  so = so;
}

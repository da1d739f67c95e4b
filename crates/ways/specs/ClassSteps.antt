-- What events make of the number of a variable's class, by the variable's kind.
use Rattle.std.specs.Prelude.{ℕ, List}
use Rattle.bodies.specs.Flags.{cancel_entry, group_entry}
use Rattle.meaning.specs.BodyEvents.{Variable, VariableRole}
use Rattle.meaning.specs.Classes.{Promises}
use Rattle.meaning.specs.FunctionFacts.{VariableKind, cancel, group}
use Rattle.meaning.specs.Uses.{Event}
use Rattle.bodies.specs.BitSteps.{cancel_step, group_step}

abbrev pub step_by : VariableKind → Promises → List ℕ → ℕ → Event → ℕ → ℕ
step_by cancel p groups number e = cancel_step p number groups e
step_by group p groups number e = group_step p number e

-- of the variable, where a cancel variable can be pending in these groups
abbrev pub class_step : Promises → List ℕ → Variable → Event → ℕ → ℕ
class_step p groups v = step_by v.kind p groups v.number

abbrev pub entry_by : VariableKind → VariableRole → ℕ
entry_by cancel role = cancel_entry role
entry_by group role = group_entry role

-- at the body's entry
abbrev pub class_at_entry : Variable → ℕ
class_at_entry v = entry_by v.kind v.role

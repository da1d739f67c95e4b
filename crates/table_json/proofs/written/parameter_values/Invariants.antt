use Rattle.std.proofs.Common.{◌≡◌, ◌++◌, drop, map}
use Rattle.serde_json.specs.View.{view}
use Rattle.table_json.specs.Tables.{position_of}
use Rattle.table_json.specs.TableValues.{parameter_value, AllFit}
use Rattle.table_json.proofs.written.parameter_values.Given as goal

-- the values so far, with those of what is left, are all; and where the positions that are left fit, all do
abbrev pub invariant-loop-parameter : goal.invariant-loop-parameter
invariant-loop-parameter l = record {
  values :
      map view l.values.items ++ map parameter_value (drop l.parameter-index l.parameters)
      ≡ map parameter_value l.parameters;
  fit : AllFit position_of (drop l.parameter-index l.parameters) → AllFit position_of l.parameters;
}

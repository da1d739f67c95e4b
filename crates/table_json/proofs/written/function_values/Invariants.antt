use Rattle.std.proofs.Common.{◌≡◌, ◌++◌, drop, map}
use Rattle.std.specs.List.{AllByRecursion}
use Rattle.serde_json.specs.View.{view}
use Rattle.table_json.specs.Parts.{HasFits}
use Rattle.table_json.specs.Tables.{entry_of}
use Rattle.table_json.specs.TableValues.{function_value}
use Rattle.table_json.proofs.written.function_values.Given as goal

-- the values so far, with those of what is left, are all; and where the positions that are left fit, all do
abbrev pub invariant-loop-function : goal.invariant-loop-function
invariant-loop-function l = record {
  values :
      map view l.values.items ++ map function_value (map entry_of (drop l.function-index l.functions))
      ≡ map function_value (map entry_of l.functions);
  fit :
      AllByRecursion HasFits (map entry_of (drop l.function-index l.functions))
      → AllByRecursion HasFits (map entry_of l.functions);
}

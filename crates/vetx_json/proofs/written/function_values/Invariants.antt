use Rattle.std.proofs.Common.{◌≡◌, ◌++◌, drop, map}
use Rattle.std.specs.List.{AllByRecursion}
use Rattle.serde_json.specs.View.{view}
use Rattle.vetx_json.specs.KeptUnits.{function_of}
use Rattle.vetx_json.specs.Parts.{HasFits}
use Rattle.vetx_json.specs.VetxValues.{function_value}
use Rattle.vetx_json.proofs.written.function_values.Given as goal

-- the values so far, with those of what is left, are all; and where the numbers that are left fit, all do
abbrev pub invariant-loop-function : goal.invariant-loop-function
invariant-loop-function l = record {
  values :
      map view l.values.items ++ map function_value (map function_of (drop l.function-index l.functions))
      ≡ map function_value (map function_of l.functions);
  fit :
      AllByRecursion HasFits (map function_of (drop l.function-index l.functions))
      → AllByRecursion HasFits (map function_of l.functions);
}

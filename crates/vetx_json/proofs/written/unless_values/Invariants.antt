use Rattle.std.proofs.Common.{◌≡◌, ◌++◌, drop, map}
use Rattle.std.specs.List.{AllByRecursion}
use Rattle.serde_json.specs.View.{view}
use Rattle.vetx_json.specs.KeptUnits.{unless_of}
use Rattle.vetx_json.specs.Parts.{HasUnlessFits}
use Rattle.vetx_json.specs.VetxValues.{unless_value}
use Rattle.vetx_json.proofs.written.unless_values.Given as goal

-- the values so far, with those of what is left, are all; and where the numbers that are left fit, all do
abbrev pub invariant-loop-one : goal.invariant-loop-one
invariant-loop-one l = record {
  values :
      map view l.values.items ++ map unless_value (map unless_of (drop l.one-index l.unless))
      ≡ map unless_value (map unless_of l.unless);
  fit :
      AllByRecursion HasUnlessFits (map unless_of (drop l.one-index l.unless))
      → AllByRecursion HasUnlessFits (map unless_of l.unless);
}

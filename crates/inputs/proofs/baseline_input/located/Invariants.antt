use Rattle.std.proofs.Common.{◌≡◌, ◌++◌, map}
use Rattle.baseline_json.specs.BaselineValues.{entry_of}
use Rattle.inputs.specs.BaselinesRead.{located}
use Rattle.inputs.proofs.baseline_input.located.Given as goal

-- those so far, with those that are left, are all
abbrev pub invariant-loop-finding : goal.invariant-loop-finding
invariant-loop-finding l =
    map entry_of l.known.items ++ map (located l.folder) l.finding-iterator.rest.items
    ≡ map (located l.folder) l.fn.found.items

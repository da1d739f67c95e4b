use Rattle.std.proofs.Common.{◌≡◌, drop, map}
use Rattle.std.specs.List.{list_any}
use Rattle.vetx_json.specs.KeptUnits.{function_of}
use Rattle.vetx_tables.specs.KeptTables.{tells_something}
use Rattle.vetx_tables.proofs.again.any_tells_something.Given as goal

-- the test of those that are left is that of all
abbrev pub invariant-loop-function : goal.invariant-loop-function
invariant-loop-function l =
    list_any tells_something (map function_of (drop l.function-index l.functions))
    ≡ list_any tells_something (map function_of l.functions)

use Rattle.std.proofs.Common.{◌≡◌, ◌++◌, drop, map}
use Rattle.std.specs.List.{filter}
use Rattle.table_json.specs.Tables.{entry_of}
use Rattle.table_json.specs.WrittenTables.{says_something}
use Rattle.table_json.proofs.written.told.Given as goal

-- those so far, with those of what is left, are all
abbrev pub invariant-loop-function : goal.invariant-loop-function
invariant-loop-function l =
    map (λ f. entry_of f.now) l.told.items ++ filter says_something (map entry_of (drop l.function-index l.functions))
    ≡ filter says_something (map entry_of l.functions)

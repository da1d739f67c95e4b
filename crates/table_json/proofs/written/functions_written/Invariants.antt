use Rattle.std.proofs.Common.{List, drop, map, ◌++◌}
use Rattle.std.specs.List.{AllZip}
use Rattle.table_json.specs.Tables.{Entry, entry_of}
use Rattle.table_json.specs.WrittenTables.{IsWrittenAs}
use Rattle.table_json.proofs.written.functions_written.Given as goal

-- what is written of those that are left completes what is written of all
abbrev pub invariant-loop-function : goal.invariant-loop-function
invariant-loop-function l =
    (rest : List Entry) → AllZip IsWrittenAs (map (λ f. entry_of f.now) (drop l.function-index l.functions)) rest
    → AllZip IsWrittenAs (map (λ f. entry_of f.now) l.functions) (map entry_of l.written.items ++ rest)

use Rattle.std.proofs.Common.{◌≡◌, ℕ, ◌||◌, List, drop, map, option_map}
use Rattle.std.specs.List.{list_any}
use Rattle.facts.specs.FactViews.{facts_by_name}
use Rattle.called_parameters.specs.Called.{is_called}
use Rattle.meaning.specs.OuterBlocks.{or_else}
use Rattle.vetx_json.specs.KeptUnits.{function_of}
use Rattle.vetx_tables.specs.KeptTables.{calls_at, facts_again, function_in}
use Rattle.vetx_tables.proofs.again.table_again.Given as goal

-- what was added, with what the functions that are left add, is the whole
abbrev pub invariant-loop-function : goal.invariant-loop-function
invariant-loop-function l =
    let left = map function_of (drop l.function-index l.functions) in
    let all = map function_of l.functions in
    ((name : List ℕ)
    → or_else (facts_by_name l.signatures name) (option_map facts_again (function_in left name))
    ≡ option_map facts_again (function_in all name))
    × ((name : List ℕ) (k : ℕ)
    → (is_called l.called name k || list_any (calls_at name k) left) ≡ list_any (calls_at name k) all)

use Rattle.std.proofs.Common.{◌≡◌, ℕ, ◌&&◌, ◌||◌, not, List, drop, is_some, map, option_map}
use Rattle.facts.specs.FactViews.{facts_by_name}
use Rattle.called_parameters.specs.Called.{is_called}
use Rattle.meaning.specs.OuterBlocks.{or_else}
use Rattle.declared_json.specs.DeclaredPackages.{function_of}
use Rattle.declared_tables.specs.DeclaredTables.{calls_in, facts_of, function_in}
use Rattle.declared_tables.proofs.tables.table_of.Given as goal

-- what was added, with what the functions that are left add, is the whole
abbrev pub invariant-loop-function : goal.invariant-loop-function
invariant-loop-function l =
    let left = map function_of (drop l.function-index l.functions) in
    let all = map function_of l.functions in
    ((name : List ℕ)
    → or_else (facts_by_name l.signatures name) (option_map facts_of (function_in left name))
    ≡ option_map facts_of (function_in all name))
    × ((name : List ℕ) (k : ℕ)
    → (is_called l.called name k
    || (not (is_some (facts_by_name l.signatures name)) && calls_in (function_in left name) k))
    ≡ calls_in (function_in all name) k)
